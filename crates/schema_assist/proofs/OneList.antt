-- Two lists that rise and hold the same are one.
use Rattle.std.proofs.Common.{◌≡◌, ℕ, zero, suc, List, [], ◌∷◌, Contains, Ordering, refl, sym, ap, ◌∙◌, subst, inl}
use Rattle.std.proofs.Common.{inr, arith}
use Rattle.std.specs.Prelude.{◌⊎◌, ◌↔◌}
use Rattle.std.specs.declared.cmp.Ordering.TheVariants.{Less, Greater}
use Rattle.std.specs.Ordering.{ordering_reverse}
use Rattle.std.specs.Cmp.{IsTotalOrder, on_total}
use Rattle.std.specs.List.{AllByRecursion}
use Rattle.std.specs.List.Sorted.{IsStrictlySortedBy}
use Rattle.std.specs.Str.{encode_utf8_all}
use Rattle.std.proofs.lemmas.Cmp.{nat_list_cmp_total}
use Rattle.std.proofs.lemmas.Map.Keys.{sorted_head, sorted_tail}
use Rattle.cedar_data.specs.Text.{text_cmp}
use Rattle.cedar_data.proofs.Lists.{contains_first, contains_later}

below : {X : Type 0} (P : X → Type 0) (xs : List X) (x : X) → AllByRecursion P xs → Contains xs x → P x
below P [] x h c = absurd (omega (arith, c.1))
below P (y ∷ ys) x h (zero, l, e) = subst P e h.0
below P (y ∷ ys) x h (suc k, l, e) = below P ys x h.1 (k, omega arith, e)

first_or_later : {X : Type 0} (x : X) (xs : List X) (z : X) → Contains (x ∷ xs) z → (x ≡ z) ⊎ Contains xs z
first_or_later x xs z (zero, l, e) = inl e
first_or_later x xs z (suc k, l, e) = inr (k, omega arith, e)

module _ {X : Type 0} {R : X → X → Ordering} (o : IsTotalOrder R) where
  never : (x y : X) → R x y ≡ Less → R y x ≡ Less → ⊥
  never x y h k = let e : Less ≡ Greater = sym h ∙ o.antisymm x y ∙ ap ordering_reverse k in cc

  firsts : (x y : X) (xs ys : List X) → IsStrictlySortedBy R (x ∷ xs) → IsStrictlySortedBy R (y ∷ ys)
      → Contains (y ∷ ys) x → Contains (x ∷ xs) y → x ≡ y
  firsts x y xs ys up down c d = elim (first_or_later y ys x c) [
    | inl same ↦ sym same
    | inr later ↦ elim (first_or_later x xs y d) [
      | inl same ↦ same
      | inr behind ↦ absurd (never x y (below (λ z. R x z ≡ Less) xs y (sorted_head R x xs up) behind)
          (below (λ z. R y z ≡ Less) ys x (sorted_head R y ys down) later))
    ]
  ]

  -- what stands in the rest of one stands in the rest of the other
  rest : (x : X) (xs ys : List X) → IsStrictlySortedBy R (x ∷ xs) → (z : X) → Contains xs z
      → (Contains (x ∷ xs) z → Contains (x ∷ ys) z) → Contains ys z
  rest x xs ys up z c move = elim (first_or_later x ys z (move (contains_later x xs z c))) [
    | inl same ↦
        let less : R x z ≡ Less = below (λ z. R x z ≡ Less) xs z (sorted_head R x xs up) c in
        let own : R x x ≡ Less = ap (λ w. R x w) same ∙ less in absurd (never x x own own)
    | inr later ↦ later
  ]

  pub one_list : (xs ys : List X) → IsStrictlySortedBy R xs → IsStrictlySortedBy R ys
      → ((z : X) → (Contains xs z ↔ Contains ys z)) → xs ≡ ys
  one_list [] [] up down same = refl
  one_list [] (y ∷ ys) up down same = absurd (omega (arith, ((same y).1 (contains_first y ys)).1))
  one_list (x ∷ xs) [] up down same = absurd (omega (arith, ((same x).0 (contains_first x xs)).1))
  one_list (x ∷ xs) (y ∷ ys) up down same =
      let e : x ≡ y = firsts x y xs ys up down ((same x).0 (contains_first x xs)) ((same y).1 (contains_first y ys)) in
      let down' : IsStrictlySortedBy R (x ∷ ys) = subst (λ w. IsStrictlySortedBy R (w ∷ ys)) (sym e) down in
      let same' : (z : X) → (Contains (x ∷ xs) z ↔ Contains (x ∷ ys) z) =
      λ z. subst (λ w. Contains (x ∷ xs) z ↔ Contains (w ∷ ys) z) (sym e) (same z) in
      let tail = one_list xs ys (sorted_tail R x xs up) (sorted_tail R y ys down)
      (λ z. (λ c. rest x xs ys up z c (same' z).0, λ c. rest x ys xs down' z c (same' z).1)) in
      λ i. e i ∷ tail i

-- texts in order
pub one_row : (xs ys : List (List ℕ)) → IsStrictlySortedBy text_cmp xs → IsStrictlySortedBy text_cmp ys
    → ((z : List ℕ) → (Contains xs z ↔ Contains ys z)) → xs ≡ ys
one_row xs ys up down same = one_list (on_total encode_utf8_all nat_list_cmp_total) xs ys up down same

-- no texts rise
pub none_rise : IsStrictlySortedBy text_cmp []
unfolding IsStrictlySortedBy
none_rise = tt
