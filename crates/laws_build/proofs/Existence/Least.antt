-- The least of those of a list that pass a test.
use Rattle.std.proofs.Common.{◌≡◌, true, false, List, [], ◌∷◌, refl, sym, ap, ◌∙◌, subst, arith}
use Rattle.std.proofs.Common.{Contains, inl, inr, ◌⊎◌, Ordering}
use Rattle.std.specs.Cmp.{IsTotalOrder}
use Rattle.std.specs.Ordering.{is_lt, ordering_reverse}
use Rattle.std.specs.declared.cmp.Ordering.TheVariants.{Less, Equal, Greater}
use Rattle.std.proofs.lemmas.Cmp.{tied_itself}
use Rattle.cedar_data.proofs.Lists.{contains_first, contains_later}
use Rattle.laws_build.proofs.Existence.Reached.{first_or_later}

-- it is or it is not
abbrev pub Known : Type 0 → Type 0
Known P = P ⊎ (P → ⊥)

module _ {D A : Type 0} (R : A → A → Ordering) (total : IsTotalOrder R) (name : D → A) (Passes : D → Type 0) where
  -- one of these passes, and none that passes is less
  pub record LeastOf (ds : List D) (x : D) : Type 0 where
    pub among : Contains ds x
    pub passes : Passes x
    pub none_less : (y : D) → Contains ds y → Passes y → is_lt (R (name y) (name x)) ≡ false

  less_through : (x y z : A) → R x y ≡ Less → is_lt (R z y) ≡ false → is_lt (R z x) ≡ false
  less_through x y z less above = go (R z x) refl
    where
      go : (o : Ordering) → R z x ≡ o → is_lt (R z x) ≡ false
      go Less is = absurd (
          let low : R z y ≡ Less = total.trans z x y is less in
          let e : true ≡ false = sym (ap is_lt low) ∙ above in cc)
      go Equal is = ap is_lt is
      go Greater is = ap is_lt is

  above_less : (x y : A) → R x y ≡ Less → is_lt (R y x) ≡ false
  above_less x y less = ap is_lt (total.antisymm y x ∙ ap ordering_reverse less)

  not_less : (x y : A) → (R x y ≡ Less → ⊥) → is_lt (R x y) ≡ false
  not_less x y none = go (R x y) refl
    where
      go : (o : Ordering) → R x y ≡ o → is_lt (R x y) ≡ false
      go Less is = absurd (none is)
      go Equal is = ap is_lt is
      go Greater is = ap is_lt is

  -- none of them passes, or there is a least that does
  pub least_or_none : (ds : List D) → ((d : D) → Contains ds d → Known (Passes d))
      → ((d : D) → Contains ds d → Passes d → ⊥) ⊎ ((x : D) × LeastOf ds x)
  least_or_none [] known = inl (λ d c p. omega (arith, c.1))
  least_or_none (d ∷ ds) known =
      go (known d (contains_first d ds)) (least_or_none ds (λ x c. known x (contains_later d ds x c)))
    where
      none_at_all : (Passes d → ⊥) → ((x : D) → Contains ds x → Passes x → ⊥) → (x : D) → Contains (d ∷ ds) x
          → Passes x → ⊥
      none_at_all fails none x c p = elim (first_or_later d ds x c) [
        | inl same ↦ fails (subst Passes (sym same) p)
        | inr there ↦ none x there p
      ]

      first_passes : Passes d → (all : (y : D) → Contains ds y → Passes y → is_lt (R (name y) (name d)) ≡ false)
          → LeastOf (d ∷ ds) d
      first_passes p all = record {
        among = contains_first d ds;
        passes = p;
        none_less = λ y c q. elim (first_or_later d ds y c) [
          | inl same ↦ ap (λ z. is_lt (R (name z) (name d))) (sym same) ∙ ap is_lt (tied_itself total (name d))
          | inr there ↦ all y there q
        ];
      }

      later : (x : D) → LeastOf ds x → (Passes d → is_lt (R (name d) (name x)) ≡ false) → LeastOf (d ∷ ds) x
      later x l first = record {
        among = contains_later d ds x l.among;
        passes = l.passes;
        none_less = λ y c q. elim (first_or_later d ds y c) [
          | inl same ↦ ap (λ z. is_lt (R (name z) (name x))) (sym same) ∙ first (subst Passes (sym same) q)
          | inr there ↦ l.none_less y there q
        ];
      }

      compared : Passes d → (x : D) → LeastOf ds x → (o : Ordering) → R (name d) (name x) ≡ o
          → (y : D) × LeastOf (d ∷ ds) y
      compared p x l Less is =
          (d, first_passes p (λ y c q. less_through (name d) (name x) (name y) is (l.none_less y c q)))
      compared p x l Equal is = (x, later x l (λ q. ap is_lt is))
      compared p x l Greater is = (x, later x l (λ q. ap is_lt is))

      go : Known (Passes d) → ((x : D) → Contains ds x → Passes x → ⊥) ⊎ ((x : D) × LeastOf ds x)
          → ((x : D) → Contains (d ∷ ds) x → Passes x → ⊥) ⊎ ((x : D) × LeastOf (d ∷ ds) x)
      go (inl p) (inl none) = inr (d, first_passes p (λ y c q. absurd (none y c q)))
      go (inl p) (inr (x, l)) = inr (compared p x l (R (name d) (name x)) refl)
      go (inr fails) (inl none) = inl (none_at_all fails none)
      go (inr fails) (inr (x, l)) = inr (x, later x l (λ p. absurd (fails p)))
