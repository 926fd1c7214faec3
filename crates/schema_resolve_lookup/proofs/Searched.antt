-- What a search by halving finds among items whose keys rise.
use Rattle.std.proofs.Common.{◌≡◌, ℕ, zero, suc, ◌+◌, ◌<◌, Bool, true, false, ◌&&◌, ◌||◌, List, [], ◌∷◌, length}
use Rattle.std.proofs.Common.{get_or}
use Rattle.std.proofs.Common.{map, Result, Ok, Err, Ordering, refl, sym, ap, ◌∙◌, arith, inl, inr}
use Rattle.std.specs.declared.cmp.Ordering.TheVariants.{Less, Equal, Greater}
use Rattle.std.specs.Cmp.{IsTotalOrder}
use Rattle.std.specs.List.{list_any, AllByRecursion}
use Rattle.std.specs.List.Sorted.{IsStrictlySortedBy, IsSortedBy, IsBinarySearchResult, IsSearchInRange}
use Rattle.std.specs.Ordering.{is_eq, is_lt, ordering_reverse}
use Rattle.std.specs.Result.{is_ok}
use Rattle.std.proofs.lemmas.Bool.{cases_lt}
use Rattle.std.proofs.lemmas.List.Folds.{list_any_at}
use Rattle.std.proofs.lemmas.List.Sorted.{searchable_from_sorted}
use Rattle.std.proofs.Math.Bool.{or-false, and-true}

module _ {K X : Type 0} {R : K → K → Ordering} (o : IsTotalOrder R) (key : X → K) where
  key_at : (P : K → Type 0) (xs : List X) (i : ℕ) (d : X) → AllByRecursion P (map key xs) → i < length xs
      → P (key (get_or xs i d))
  key_at P [] i d all h = absurd (omega arith)
  key_at P (x ∷ xs) zero d all h = all.0
  key_at P (x ∷ xs) (suc i) d all h = key_at P xs i d all.1 (omega arith)

  -- each key but the first is above the one before it
  neighbours : (xs : List X) → IsStrictlySortedBy R (map key xs) → IsSortedBy (λ a b. is_lt (R (key a) (key b))) xs
  unfolding IsStrictlySortedBy
  neighbours [] up k d low high = absurd (omega arith)
  neighbours (x ∷ []) up k d low high = absurd (omega arith)
  neighbours (x ∷ y ∷ xs) up zero d low high =
      ap is_lt (o.antisymm (key y) (key x) ∙ ap ordering_reverse up.0.0)
  neighbours (x ∷ y ∷ xs) up (suc k) d low high =
      let next : suc k + 1 ≡ suc (k + 1) = omega arith in
      ap (λ i. is_lt (R (key (get_or (x ∷ y ∷ xs) i d)) (key (get_or (y ∷ xs) k d)))) next
      ∙ neighbours (y ∷ xs) up.1 k d (omega arith) (omega arith)

  -- an item is the same as what is sought where its key is q
  module _ (q : K) (same : X → Bool) (tie : (x : X) → is_eq (R (key x) q) ≡ same x) where
    stands : (x : X) (answer : Ordering) → R (key x) q ≡ answer → same x ≡ is_eq answer
    stands x answer e = sym (tie x) ∙ ap is_eq e

    none_behind : (test : X → Bool) (x : X) (ys : List X) → R (key x) q ≡ Equal
        → AllByRecursion (λ k. R (key x) k ≡ Less) (map key ys) → list_any (λ y. same y && test y) ys ≡ false
    none_behind test x [] e above = refl
    none_behind test x (y ∷ ys) e above =
        let more : R (key y) q ≡ Greater = o.antisymm (key y) q
        ∙ ap ordering_reverse (sym (o.congr (key x) q (key y) e) ∙ above.0) in
        ap (λ b. (b && test y) || list_any (λ z. same z && test z) ys) (stands y Greater more)
        ∙ none_behind test x ys e above.1

    -- the one that is found is the only one
    pub found_at : (test : X → Bool) (xs : List X) → IsStrictlySortedBy R (map key xs) → (at : ℕ) (d : X)
        → at < length xs → R (key (get_or xs at d)) q ≡ Equal
        → list_any (λ x. same x && test x) xs ≡ test (get_or xs at d)
    unfolding IsStrictlySortedBy
    found_at test [] up at d h e = absurd (omega arith)
    found_at test (x ∷ xs) up zero d h e =
        ap (λ b. (b && test x) || list_any (λ z. same z && test z) xs) (stands x Equal e)
        ∙ ap (λ b. test x || b) (none_behind test x xs e up.0) ∙ or-false (test x)
    found_at test (x ∷ xs) up (suc at) d h e =
        let y = get_or xs at d in
        let less : R (key x) (key y) ≡ Less = key_at (λ k. R (key x) k ≡ Less) xs at d up.0 (omega arith) in
        let back : R q (key x) ≡ Greater = sym (o.congr (key y) q (key x) e)
        ∙ (o.antisymm (key y) (key x) ∙ ap ordering_reverse less) in
        let below : R (key x) q ≡ Less = o.antisymm (key x) q ∙ ap ordering_reverse back in
        ap (λ b. (b && test x) || list_any (λ z. same z && test z) xs) (stands x Less below)
        ∙ found_at test xs up.1 at d (omega arith) e

    all_above : (test : X → Bool) (x : X) (ys : List X) → R q (key x) ≡ Less
        → AllByRecursion (λ k. R (key x) k ≡ Less) (map key ys) → list_any (λ y. same y && test y) ys ≡ false
    all_above test x [] below above = refl
    all_above test x (y ∷ ys) below above =
        let more : R (key y) q ≡ Greater = o.antisymm (key y) q
        ∙ ap ordering_reverse (o.trans q (key x) (key y) below above.0) in
        ap (λ b. (b && test y) || list_any (λ z. same z && test z) ys) (stands y Greater more)
        ∙ all_above test x ys below above.1

    -- where the first one is above what is sought, none is there
    pub none_above : (test : X → Bool) (xs : List X) → IsStrictlySortedBy R (map key xs) → (d : X)
        → R (key (get_or xs 0 d)) q ≡ Greater → list_any (λ y. same y && test y) xs ≡ false
    unfolding IsStrictlySortedBy
    none_above test [] up d e = refl
    none_above test (x ∷ xs) up d e =
        ap (λ b. (b && test x) || list_any (λ z. same z && test z) xs) (stands x Greater e)
        ∙ all_above test x xs (o.antisymm q (key x) ∙ ap ordering_reverse e) up.0

    none_there : (test : X → Bool) (xs : List X) → ((k : ℕ) (d : X) → k < length xs → same (get_or xs k d) ≡ false)
        → list_any (λ x. same x && test x) xs ≡ false
    none_there test [] h = refl
    none_there test (x ∷ xs) h =
        ap (λ b. (b && test x) || list_any (λ z. same z && test z) xs) (h 0 x (omega arith))
        ∙ none_there test xs (λ k d l. h (suc k) d (omega arith))

    -- where none is found none is there
    pub found_none : (test : X → Bool) (xs : List X) → IsStrictlySortedBy R (map key xs) → (at : ℕ)
        → IsBinarySearchResult (λ x. R (key x) q) xs (Err at) → list_any (λ x. same x && test x) xs ≡ false
    found_none test xs up at found =
        let parts = found (searchable_from_sorted o key xs q (neighbours xs up)) in
        none_there test xs (λ k d l. elim (cases_lt k at) [
          | inl before ↦ stands (get_or xs k d) Less (parts.0 k d (omega arith) before)
          | inr after ↦ stands (get_or xs k d) Greater (parts.1 k d after l)
        ])

    -- one is found where one is there
    pub found_any : (xs : List X) → IsStrictlySortedBy R (map key xs) → (r : Result ℕ ℕ)
        → IsSearchInRange r (length xs) → IsBinarySearchResult (λ x. R (key x) q) xs r → is_ok r ≡ list_any same xs
    found_any [] up (Ok at) h found = absurd (omega arith)
    found_any (x ∷ xs) up (Ok at) h found = sym (list_any_at same (x ∷ xs) at x h (stands _ Equal (found x)))
    found_any xs up (Err at) h found =
        sym (found_none (λ x. true) xs up at found) ∙ (λ i. list_any (λ x. and-true (same x) i) xs)
