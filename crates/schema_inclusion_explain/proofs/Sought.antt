-- A walk along entries whose keys rise.
use Rattle.std.proofs.Common.{◌≡◌, ℕ, zero, suc, ◌+◌, ◌<◌, ◌≤◌, Bool, true, false, cond, List, [], ◌∷◌, map, length}
use Rattle.std.proofs.Common.{get_or}
use Rattle.std.proofs.Common.{Some, None, refl, sym, ap, ◌∙◌, subst, arith, inl, inr}
use Rattle.std.specs.Prelude.{◌⊎◌}
use Rattle.std.specs.List.{find}
use Rattle.std.specs.List.Sorted.{IsStrictlySortedBy}
use Rattle.std.specs.Ordering.{is_eq, ordering_reverse}
use Rattle.std.specs.Cmp.{IsTotalOrder}
use Rattle.std.specs.declared.cmp.Ordering.{Ordering}
use Rattle.std.specs.declared.cmp.Ordering.TheVariants.{Less, Equal, Greater}
use Rattle.std.proofs.lemmas.Bool.{cases_eq}
use Rattle.std.proofs.lemmas.List.{get_or-map, length-map}
use Rattle.std.proofs.lemmas.Map.Keys.{Less-from_sorted}
use Rattle.schema_inclusion_check.specs.Below.{AreBelow}

cases_order : (k n : ℕ) → (k < n) ⊎ ((k ≡ n) ⊎ (n < k))
cases_order zero zero = inr (inl refl)
cases_order zero (suc n) = inl (omega arith)
cases_order (suc k) zero = inr (inr (omega arith))
cases_order (suc k) (suc n) = elim (cases_order k n) [
  | inl less ↦ inl (omega arith)
  | inr (inl same) ↦ inr (inl (ap suc same))
  | inr (inr more) ↦ inr (inr (omega arith))
]

-- what is found is at the first place that passes
pub find_here : {X : Type 0} (p : X → Bool) (xs : List X) (i : ℕ) (d : X) → i < length xs → d ≡ get_or xs i d
    → ((k : ℕ) (e : X) → k < i → p (get_or xs k e) ≡ false) → p d ≡ true → find p xs ≡ Some d
find_here p [] i d h e before t = absurd (omega arith)
find_here p (x ∷ xs) zero d h e before t =
    ap (λ b. cond b (Some x) (find p xs)) (ap p (sym e) ∙ t) ∙ ap Some (sym e)
find_here p (x ∷ xs) (suc i) d h e before t =
    ap (λ b. cond b (Some x) (find p xs)) (before 0 d (omega arith))
    ∙ find_here p xs i d (omega arith) e (λ k f lt. before (suc k) f (omega arith)) t

pub find_nowhere : {X : Type 0} (p : X → Bool) (xs : List X)
    → ((k : ℕ) (e : X) → k < length xs → p (get_or xs k e) ≡ false) → find p xs ≡ None
find_nowhere p [] none = refl
find_nowhere p (x ∷ xs) none =
    ap (λ b. cond b (Some x) (find p xs)) (none 0 x (omega arith))
    ∙ find_nowhere p xs (λ k e lt. none (suc k) e (omega arith))

pub same_default : {X : Type 0} (xs : List X) (i : ℕ) (d e : X) → i < length xs → get_or xs i d ≡ get_or xs i e
same_default [] i d e h = absurd (omega arith)
same_default (x ∷ xs) zero d e h = refl
same_default (x ∷ xs) (suc i) d e h = same_default xs i d e (omega arith)

module _ {K X : Type 0} {C : K → K → Ordering} (o : IsTotalOrder C) (key : X → K) where
  -- an earlier key is less
  pub earlier_less : (xs : List X) (i j : ℕ) (d : X) → IsStrictlySortedBy C (map key xs) → i < j → j < length xs
      → C (key (get_or xs i d)) (key (get_or xs j d)) ≡ Less
  earlier_less xs i j d up lt h =
      let at_i : get_or (map key xs) i (key d) ≡ key (get_or xs i d) = get_or-map key xs i d (key d) (omega arith) in
      let at_j : get_or (map key xs) j (key d) ≡ key (get_or xs j d) = get_or-map key xs j d (key d) h in
      let low : C (get_or (map key xs) i (key d)) (get_or (map key xs) j (key d))
      ≡ Less = Less-from_sorted C (map key xs) i j (key d) up lt (omega (arith, length-map xs key)) in
      ap (λ k. C k (key (get_or xs j d))) (sym at_i) ∙ (ap (λ k. C (get_or (map key xs) i (key d)) k) (sym at_j) ∙ low)

  -- one place on
  pub below_next : (xs : List X) (at : ℕ) (d : X) (q : K) → at < length xs → d ≡ get_or xs at d → C (key d) q ≡ Less
      → AreBelow C key xs at q → AreBelow C key xs (at + 1) q
  below_next xs at d q h e less below = λ k f lt. elim (cases_eq k at) [
    | inl same ↦ subst (λ i. C (key (get_or xs i f)) q ≡ Less) (sym same)
        (ap (λ x. C (key x) q) (same_default xs at f d h ∙ sym e) ∙ less)
    | inr other ↦ below k f (omega arith)
  ]

  -- the keys up to a place are less where the one at the place is
  pub below_until : (xs : List X) (m : ℕ) (d : X) (q : K) → IsStrictlySortedBy C (map key xs) → m < length xs
      → d ≡ get_or xs m d → C (key d) q ≡ Less → AreBelow C key xs (m + 1) q
  below_until xs m d q up h e less = λ k f lt. elim (cases_eq k m) [
    | inl same ↦ subst (λ i. C (key (get_or xs i f)) q ≡ Less) (sym same)
        (ap (λ x. C (key x) q) (same_default xs m f d h ∙ sym e) ∙ less)
    | inr other ↦ o.trans (key (get_or xs k f)) (key d) q
        (ap (λ x. C (key (get_or xs k f)) (key x)) (e ∙ same_default xs m d f h)
        ∙ earlier_less xs k m f up (omega arith) h) less
  ]

  module _ (xs : List X) (q : K) where
    abbrev is_here : X → Bool
    is_here x = is_eq (C (key x) q)

    pub found_here : (at : ℕ) (d : X) → at < length xs → d ≡ get_or xs at d → AreBelow C key xs at q
        → C (key d) q ≡ Equal → Some d ≡ find is_here xs
    found_here at d h e below equal = sym (find_here is_here xs at d h e (λ k f lt. ap is_eq (below k f lt))
        (ap is_eq equal))

    pub gone_past : (at : ℕ) (d : X) → IsStrictlySortedBy C (map key xs) → at < length xs → d ≡ get_or xs at d
        → AreBelow C key xs at q → C (key d) q ≡ Greater → None ≡ find is_here xs
    gone_past at d up h e below greater = sym (find_nowhere is_here xs (λ k f lt. by k f lt))
      where
        above : C q (key d) ≡ Less
        above = o.antisymm q (key d) ∙ ap ordering_reverse greater

        by : (k : ℕ) (f : X) → k < length xs → is_here (get_or xs k f) ≡ false
        by k f lt = elim (cases_order k at) [
          | inl less ↦ ap is_eq (below k f less)
          | inr (inl same) ↦ subst (λ i. is_here (get_or xs i f) ≡ false) (sym same)
              (ap is_here (same_default xs at f d h ∙ sym e) ∙ ap is_eq greater)
          | inr (inr more) ↦ ap is_eq (o.antisymm (key (get_or xs k f)) q ∙ ap ordering_reverse
              (o.trans q (key d) (key (get_or xs k f)) above
              (ap (λ x. C (key x) (key (get_or xs k f))) (e ∙ same_default xs at d f h)
              ∙ earlier_less xs at k f up more lt)))
        ]

    pub gone_through : (at : ℕ) → length xs ≤ at → AreBelow C key xs at q → None ≡ find is_here xs
    gone_through at h below = sym (find_nowhere is_here xs (λ k f lt. ap is_eq (below k f (omega arith))))
