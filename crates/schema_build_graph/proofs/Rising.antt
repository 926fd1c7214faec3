-- Numbers that stand once each rise strictly once they are sorted.
use Rattle.std.proofs.Common.{◌≡◌, ◌≢◌, ℕ, ◌+◌, ◌<◌, ◌≤◌, List, length, get_or, refl, ap, sym, ◌∙◌, arith, ◌⊎◌, inl}
use Rattle.std.proofs.Common.{inr}
use Rattle.std.specs.List.{swap}
use Rattle.std.specs.List.Sorted.{IsPermutation, IsStrictlyIncreasing, IsNonDecreasingBy, IsSorted}
use Rattle.std.specs.Ordering.{nat_cmp}
use Rattle.std.proofs.lemmas.List.Sorted.{IsPermutation-keeps, IsNonDecreasingBy-from_sort}
use Rattle.std.proofs.lemmas.List.Edits.{length-swap, Swapped, swapped_from_swap}
use Rattle.std.proofs.lemmas.Bool.{cases_eq}
use Rattle.schema_build_graph.specs.Marks.{IsApart}

-- k stood at k' before the swap of a and b
abbrev From : ℕ → ℕ → ℕ → ℕ → Type 0
From a b k k' = ((k ≡ a) × (k' ≡ b)) ⊎ (((k ≡ b) × (k' ≡ a)) ⊎ ((k ≢ a) × (k ≢ b) × (k' ≡ k)))

moved : (f g : ℕ → ℕ) (a b : ℕ) → Swapped f g a b → (n : ℕ) → a < n → b < n → (k : ℕ) → k < n
    → (k' : ℕ) × (k' < n) × (g k ≡ f k') × From a b k k'
moved f g a b s n ha hb k hk = elim (cases_eq k a) [
  | inl e ↦ (b, hb, ap g e ∙ s.0, inl (e, refl))
  | inr off ↦ elim (cases_eq k b) [
    | inl e ↦ (a, ha, ap g e ∙ s.1, inr (inl (e, refl)))
    | inr away ↦ (k, hk, s.2 k off away, inr (inr (off, away, refl)))
  ]
]

same_from : (a b i j i' j' : ℕ) → From a b i i' → From a b j j' → i' ≡ j' → i ≡ j
same_from a b i j i' j' p q e = grind arith

apart_swap : (xs : List ℕ) (a b : ℕ) → a < length xs → b < length xs → IsApart xs → IsApart (swap xs a b)
apart_swap xs a b ha hb apart i j hi hj same =
    let s : Swapped (λ i. get_or xs i 0) (λ i. get_or (swap xs a b) i 0) a b = swapped_from_swap xs
    (swap xs a b) a b 0 ha hb refl in
    let long : length (swap xs a b) ≡ length xs = length-swap xs a b in
    let p = moved (λ i. get_or xs i 0) (λ i. get_or (swap xs a b) i 0) a b s (length xs) ha hb i (omega arith) in
    let q = moved (λ i. get_or xs i 0) (λ i. get_or (swap xs a b) i 0) a b s (length xs) ha hb j (omega arith) in
    let e : p.0 ≡ q.0 = apart p.0 q.0 p.1 q.1 (sym p.2 ∙ same ∙ q.2) in
    same_from a b i j p.0 q.0 p.3 q.3 e

pub rising : (xs ys : List ℕ) → IsApart xs → IsPermutation xs ys → IsSorted nat_cmp ys → IsStrictlyIncreasing ys
rising xs ys apart moved sorted k h =
    let apart' : IsApart ys = IsPermutation-keeps xs IsApart apart
    (λ l i j hi hj p. apart_swap l i j hi hj p) ys moved in
    let up : IsNonDecreasingBy (λ x. x) ys = IsNonDecreasingBy-from_sort (λ x. x) ys sorted in
    let le : get_or ys k 0 ≤ get_or ys (k + 1) 0 = up k (k + 1) 0 (omega arith) h in
    let not : get_or ys k 0 ≢ get_or ys (k + 1) 0 = λ e. let same : k ≡ k + 1 = apart' k (k + 1)
    (omega arith) h e in omega arith in
    omega arith
