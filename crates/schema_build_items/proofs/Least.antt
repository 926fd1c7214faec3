-- The first of a rising list for which nothing is built is the least that lacks a record.
use Rattle.std.proofs.Common.{◌≡◌, ℕ, zero, suc, ◌<◌, false, List, [], ◌∷◌, length, take, get_or, sym, ap, ◌∙◌, subst}
use Rattle.std.proofs.Common.{inl, inr, Contains, Ordering, arith}
use Rattle.std.specs.declared.cmp.Ordering.TheVariants.{Less}
use Rattle.std.specs.Cmp.{IsTotalOrder}
use Rattle.std.specs.Ordering.{is_lt, ordering_reverse}
use Rattle.std.specs.List.{AllZip}
use Rattle.std.specs.List.Sorted.{IsStrictlySortedBy}
use Rattle.std.proofs.lemmas.Bool.{cases_lt}
use Rattle.std.proofs.lemmas.Cmp.{tied_itself}
use Rattle.std.proofs.lemmas.Map.Keys.{Less-from_sorted}

module _ {D V : Type 0} (Built : D → V → Type 0) (Lacks : D → Type 0)
    (apart : (d : D) (v : V) → Built d v → Lacks d → ⊥) where
  -- what is built lacks nothing
  pub none_lacks : (xs : List D) (vs : List V) → AllZip Built xs vs → (y : D) → Contains xs y → Lacks y → ⊥
  none_lacks [] vs h y c l = omega (arith, c.1)
  none_lacks (x ∷ xs) [] h y c l = h
  none_lacks (x ∷ xs) (v ∷ vs) h y (zero, lt, is) l = apart x v h.0 (subst Lacks (sym is) l)
  none_lacks (x ∷ xs) (v ∷ vs) h y (suc k, lt, is) l = none_lacks xs vs h.1 y (k, omega arith, is) l

  none_before : (xs : List D) (vs : List V) (i j : ℕ) (y : D) → AllZip Built (take i xs) vs → j < i → j < length xs
      → get_or xs j y ≡ y → Lacks y → ⊥
  none_before [] vs i j y h lt within is l = omega (arith, within)
  none_before (x ∷ xs) vs zero j y h lt within is l = omega (arith, lt)
  none_before (x ∷ xs) [] (suc i) j y h lt within is l = h
  none_before (x ∷ xs) (v ∷ vs) (suc i) zero y h lt within is l = apart x v h.0 (subst Lacks (sym is) l)
  none_before (x ∷ xs) (v ∷ vs) (suc i) (suc j) y h lt within is l =
      none_before xs vs i j y h.1 (omega arith) (omega arith) is l

  module _ {R : D → D → Ordering} (o : IsTotalOrder R) where
    not_behind : (xs : List D) → IsStrictlySortedBy R xs → (i j : ℕ) (x y : D) → i < length xs → j < length xs
        → get_or xs i x ≡ x → get_or xs j y ≡ y → (j < i → ⊥) → is_lt (R y x) ≡ false
    not_behind xs up i j x y il jl ix jy later = elim (cases_lt i j) [
      | inl lt ↦
          let less : R x y ≡ Less =
          ap (λ z. R z y) (sym ix) ∙ ap (λ z. R (get_or xs i x) z) (sym (other xs j y x jl jy))
          ∙ Less-from_sorted R xs i j x up lt jl in
          ap is_lt (o.antisymm y x ∙ ap ordering_reverse less)
      | inr ge ↦ elim (cases_lt j i) [
        | inl lt ↦ absurd (later lt)
        | inr le ↦
            let place : i ≡ j = omega arith in
            let same : x ≡ y = sym ix ∙ ap (λ k. get_or xs k x) place ∙ other xs j y x jl jy in
            ap is_lt (ap (R y) same ∙ tied_itself o y)
      ]
    ]
      where
        other : (xs : List D) (j : ℕ) (y x : D) → j < length xs → get_or xs j y ≡ y → get_or xs j x ≡ y
        other [] j y x lt is = absurd (omega (arith, lt))
        other (z ∷ zs) zero y x lt is = is
        other (z ∷ zs) (suc j) y x lt is = other zs j y x (omega arith) is

    -- where something is built for each before it, none that lacks is less
    pub none_less : (xs : List D) (vs : List V) (i : ℕ) (x : D) → IsStrictlySortedBy R xs → i < length xs
        → get_or xs i x ≡ x → AllZip Built (take i xs) vs → (y : D) → Contains xs y → Lacks y → is_lt (R y x) ≡ false
    none_less xs vs i x up lt is h y (j, jl, jy) l =
        not_behind xs up i j x y lt jl is jy (λ before. none_before xs vs i j y h before jl jy l)
