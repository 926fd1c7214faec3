-- What a comparison says of the items before it and behind it.
use Rattle.std.proofs.Common.{◌≡◌, ℕ, suc, ◌+◌, ◌<◌, List, [], ◌∷◌, length, get_or, Bool, true, false, ◌||◌, Ordering}
use Rattle.std.proofs.Common.{refl, sym, ap, ◌∙◌, subst, arith, inl, inr}
use Rattle.std.specs.declared.cmp.Ordering.TheVariants.{Less, Greater}
use Rattle.std.specs.Ordering.{is_eq}
use Rattle.std.specs.List.{list_any}
use Rattle.std.specs.List.Sorted.{IsStrictlySortedBy}
use Rattle.std.proofs.lemmas.Map.Keys.{Less-from_sorted}
use Rattle.std.proofs.lemmas.Bool.{cases_eq, cases_lt}
use Rattle.std.proofs.lemmas.List.{get_or_default}
use Rattle.std.proofs.lemmas.List.Folds.{list_any_at}
use Rattle.cedar_names.specs.Searches.{IsAt, StandsWithin}

none_passes : {T : Type 0} (p : T → Bool) (xs : List T)
    → ((i : ℕ) (d : T) → i < length xs → p (get_or xs i d) ≡ false) → list_any p xs ≡ false
none_passes p [] h = refl
none_passes p (x ∷ xs) h =
    ap (λ b. b || list_any p xs) (h 0 x (omega arith)) ∙ none_passes p xs (λ i d l. h (suc i) d (omega arith))

module _ {T : Type 0} (place : T → Ordering) where
  pub hit : (xs : List T) (at : ℕ) → IsAt place xs at → list_any (λ x. is_eq (place x)) xs ≡ true
  hit [] at h = absurd (omega (arith, h.in_range))
  hit (x ∷ xs) at h = list_any_at (λ y. is_eq (place y)) (x ∷ xs) at x h.in_range (ap is_eq (h.equal x))

  pub miss : (xs : List T) (at : ℕ) → StandsWithin place xs at at → list_any (λ x. is_eq (place x)) xs ≡ false
  miss xs at gap =
      none_passes (λ x. is_eq (place x)) xs
      (λ i d l. elim (cases_lt i at) [ inl lt ↦ ap is_eq (gap.below i d lt) | inr ge ↦ ap is_eq (gap.above i d ge l) ])

  module _ (R : T → T → Ordering) where
    -- the item in the middle is below what is sought, and so is each before it
    pub below_more : ((x y : T) → R x y ≡ Less → place y ≡ Less → place x ≡ Less)
        → (xs : List T) (low high middle : ℕ) (k : T) → IsStrictlySortedBy R xs → StandsWithin place xs low high
        → middle < high → k ≡ get_or xs middle k → place k ≡ Less → StandsWithin place xs (middle + 1) high
    below_more falls xs low high middle k up gap h at less =
        let here : (d : T) → place (get_or xs middle d)
        ≡ Less = λ d. ap place (get_or_default xs middle d k (omega (arith, gap.in_range)) ∙ sym at) ∙ less in
        record {
          in_range = gap.in_range;
          below = λ i d lt. elim (cases_eq i middle) [
            | inl same ↦ subst (λ j. place (get_or xs j d) ≡ Less) (sym same) (here d)
            | inr other ↦ falls (get_or xs i d) (get_or xs middle d)
                (Less-from_sorted R xs i middle d up (omega arith) (omega (arith, gap.in_range))) (here d)
          ];
          above = gap.above;
        }

    -- the item in the middle is above what is sought, and so is each behind it
    pub above_more : ((x y : T) → R x y ≡ Less → place x ≡ Greater → place y ≡ Greater)
        → (xs : List T) (low high middle : ℕ) (k : T) → IsStrictlySortedBy R xs → StandsWithin place xs low high
        → middle < high → k ≡ get_or xs middle k → place k ≡ Greater → StandsWithin place xs low middle
    above_more rises xs low high middle k up gap h at greater =
        let here : (d : T) → place (get_or xs middle d)
        ≡ Greater = λ d. ap place (get_or_default xs middle d k (omega (arith, gap.in_range)) ∙ sym at) ∙ greater in
        record {
          in_range = omega (arith, gap.in_range);
          below = gap.below;
          above = λ i d ge lt. elim (cases_eq i middle) [
            | inl same ↦ subst (λ j. place (get_or xs j d) ≡ Greater) (sym same) (here d)
            | inr other ↦ rises (get_or xs middle d) (get_or xs i d)
                (Less-from_sorted R xs middle i d up (omega arith) lt) (here d)
          ];
        }
