-- The first marked of a row that rises is the least.
use Rattle.std.proofs.Common.{◌≡◌, ℕ, Bool, true, false, ◌+◌, ◌-◌, ◌<◌, ◌≤◌, inl, inr, List, length, get_or, take, Some}
use Rattle.std.proofs.Common.{subst, arith, All, zero, suc}
use Rattle.std.specs.List.Sorted.{IsStrictlyIncreasing}
use Rattle.std.proofs.lemmas.List.{length-take, get_or-take, get_or_default}
use Rattle.std.proofs.lemmas.List.Elements.{Contains-get_or}
use Rattle.std.proofs.lemmas.Bool.{cases_lt}
use Rattle.schema_build_graph.specs.Order.{is_marked, IsLeastMarked}

-- n places on, none is less
rises : (row : List ℕ) → IsStrictlyIncreasing row → (i n : ℕ) → i + n < length row
    → get_or row i 0 ≤ get_or row (i + n) 0
rises row up i zero h = let here : i + 0 ≡ i = omega arith in rw here (omega arith)
rises row up i (suc n) h =
    let next : i + suc n ≡ (i + n) + 1 = omega arith in
    rw next (omega (arith, rises row up i n (omega arith), up (i + n) (omega arith)))

pub least_here : (row : List ℕ) (marks : List Bool) (i : ℕ) → i < length row → IsStrictlyIncreasing row
    → All (λ u. is_marked marks u ≡ false) (take i row) → is_marked marks (get_or row i 0) ≡ true
    → IsLeastMarked row marks (Some (get_or row i 0))
least_here row marks i h up none marked = (
  Contains-get_or row i 0 h,
  marked,
  (λ k d lt e. elim (cases_lt k i) [
    | inl less ↦ absurd (
        let off : is_marked marks (get_or (take i row) k d) ≡ false = none k d (omega (arith, length-take i row)) in
        let same : get_or (take i row) k d ≡ get_or row k d = get_or-take i row k d less in
        let off' : is_marked marks (get_or row k d) ≡ false = subst (λ x. is_marked marks x ≡ false) same off in
        cc)
    | inr more ↦
        let sum : i + (k - i) ≡ k = omega arith in
        let le : get_or row i 0 ≤ get_or row k 0 = subst (λ j. get_or row i 0 ≤ get_or row j 0) sum
        (rises row up i (k - i) (omega arith)) in
        subst (λ x. get_or row i 0 ≤ x) (get_or_default row k 0 d lt) le
  ]),
)
