-- Lists in order, each item once.
use Rattle.std.proofs.Common.{◌≡◌, ℕ, zero, suc, ◌<◌, ◌≤◌, List, [], ◌∷◌, length, get_or, Bool, true, false, ◌||◌, cond}
use Rattle.std.proofs.Common.{Ordering, refl, sym, ap, ◌∙◌, arith, inl, inr}
use Rattle.std.specs.Prelude.{◌⊎◌}
use Rattle.std.specs.declared.cmp.Ordering.TheVariants.{Less, Greater}
use Rattle.std.specs.Ordering.{ordering_reverse}
use Rattle.std.specs.Cmp.{IsTotalOrder}
use Rattle.std.specs.List.{list_any, dedup, dedup_from, insert, AllByRecursion}
use Rattle.std.specs.List.Sorted.{IsStrictlySortedBy, IsPermutation}
use Rattle.std.proofs.lemmas.Bool.{cases_Bool}
use Rattle.std.proofs.lemmas.List.Sorted.{list_any-IsPermutation, IsPermutation-insert}
use mathlib.Core.Bool.{or_comm, or_self_left}

module _ {T : Type 0} (same : T → T → Bool) (passes : T → Bool)
    (alike : (x y : T) → same x y ≡ true → passes x ≡ passes y) where
  kept_from : (k : T) (xs : List T) → list_any passes (dedup_from same k xs) ≡ (passes k || list_any passes xs)
  kept_from k [] = refl
  kept_from k (x ∷ xs) = go (kept_from k xs) (kept_from x xs) (cases_Bool (same x k))
    where
      go : list_any passes (dedup_from same k xs) ≡ (passes k || list_any passes xs)
          → list_any passes (dedup_from same x xs) ≡ (passes x || list_any passes xs)
          → (same x k ≡ true) ⊎ (same x k ≡ false)
          → list_any passes (cond (same x k) (dedup_from same k xs) (k ∷ dedup_from same x xs))
          ≡ (passes k || (passes x || list_any passes xs))
      go mine its (inl e) =
          ap (λ b. list_any passes (cond b (dedup_from same k xs) (k ∷ dedup_from same x xs))) e ∙ mine
          ∙ sym (or_self_left (passes k) (list_any passes xs))
          ∙ ap (λ b. passes k || (b || list_any passes xs)) (sym (alike x k e))
      go mine its (inr e) = ap (λ b. list_any passes (cond b (dedup_from same k xs) (k ∷ dedup_from same x xs))) e
          ∙ ap (λ b. passes k || b) its

  pub kept : (xs : List T) → list_any passes (dedup same xs) ≡ list_any passes xs
  kept [] = refl
  kept (x ∷ xs) = kept_from x xs

pub shuffled : {T : Type 0} (passes : T → Bool) (xs ys : List T) → IsPermutation xs ys
    → list_any passes ys ≡ list_any passes xs
shuffled passes xs ys p = sym (list_any-IsPermutation passes xs ys p)

-- one more item
pub put_in : {T : Type 0} (passes : T → Bool) (xs : List T) (at : ℕ) (x : T)
    → list_any passes (insert xs at x) ≡ (list_any passes xs || passes x)
put_in passes xs at x = sym (list_any-IsPermutation passes (x ∷ xs) (insert xs at x) (IsPermutation-insert xs at x))
    ∙ or_comm (passes x) (list_any passes xs)

module _ {T : Type 0} {R : T → T → Ordering} (o : IsTotalOrder R) (x : T) where
  all_put_in : (P : T → Type 0) (xs : List T) (at : ℕ) → AllByRecursion P xs → P x → AllByRecursion P (insert xs at x)
  all_put_in P xs zero all here = (here, all)
  all_put_in P [] (suc at) all here = (here, tt)
  all_put_in P (y ∷ ys) (suc at) all here = (all.0, all_put_in P ys at all.1 here)

  all_above : (xs : List T) → ((k : ℕ) (d : T) → k < length xs → R (get_or xs k d) x ≡ Greater)
      → AllByRecursion (λ y. R x y ≡ Less) xs
  all_above [] above = tt
  all_above (y ∷ ys) above = (
    o.antisymm x y
        ∙ ap ordering_reverse (above 0 y (omega arith)),
    all_above ys (λ k d h. above (suc k) d (omega arith)),
  )

  -- an item between those below it and those above it
  pub stays_sorted : (xs : List T) (at : ℕ) → IsStrictlySortedBy R xs → at ≤ length xs
      → ((k : ℕ) (d : T) → k < at → R (get_or xs k d) x ≡ Less)
      → ((k : ℕ) (d : T) → at ≤ k → k < length xs → R (get_or xs k d) x ≡ Greater)
      → IsStrictlySortedBy R (insert xs at x)
  unfolding IsStrictlySortedBy
  stays_sorted xs zero up h below above = (all_above xs (λ k d l. above k d (omega arith) l), up)
  stays_sorted [] (suc at) up h below above = absurd (omega arith)
  stays_sorted (y ∷ ys) (suc at) up h below above = (
    all_put_in (λ z. R y z ≡ Less) ys at up.0 (below 0 y (omega arith)),
    stays_sorted ys at up.1 (omega arith)
        (λ k d l. below (suc k) d (omega arith)) (λ k d g l. above (suc k) d (omega arith) (omega arith)),
  )
