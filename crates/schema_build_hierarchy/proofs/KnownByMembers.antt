-- A list that strictly rises is known by its members.
use Rattle.std.proofs.Common.{◌≡◌, ℕ, List, [], ◌∷◌, Ordering, Some, Contains}
use Rattle.std.proofs.Common.{refl, sym, ap, ◌∙◌, subst, inl, inr, arith}
use Rattle.std.specs.Prelude.{slice_get}
use Rattle.std.specs.declared.cmp.Ordering.TheVariants.{Less, Greater}
use Rattle.std.specs.Cmp.{IsTotalOrder}
use Rattle.std.specs.List.Sorted.{IsStrictlySortedBy}
use Rattle.std.specs.Ordering.{ordering_reverse}
use Rattle.std.proofs.lemmas.Cmp.{nat_cmp_total}
use Rattle.std.proofs.lemmas.List.Elements.{All-from_recursion, All-contains}
use Rattle.std.proofs.lemmas.Map.Keys.{sorted_head, sorted_tail, sorted_from_strictly_increasing}
use Rattle.cedar_data.proofs.Lists.{contains_first, contains_later}
use Rattle.schema_build_hierarchy.specs.Ancestors.{IsAncestorRow}
use Rattle.schema_build_hierarchy.specs.Entries.{SameMembers}
use Rattle.schema_build_hierarchy.proofs.Once.{contains_cases}

module _ {A : Type 0} where
  module _ {R : A → A → Ordering} (o : IsTotalOrder R) where
    less_itself : (x : A) → R x x ≡ Less → ⊥
    less_itself x h = let e : Less ≡ Greater = sym h ∙ (o.antisymm x x ∙ ap ordering_reverse h) in absurd (cc)

    above : (x z : A) (xs : List A) → IsStrictlySortedBy R (x ∷ xs) → Contains xs z → R x z ≡ Less
    above x z xs up c =
        let all = All-from_recursion (λ y. R x y ≡ Less) xs (sorted_head R x xs up) in
        All-contains (λ y. R x y ≡ Less) xs z all c

    tails : (x y : A) (xs ys : List A) → x ≡ y → IsStrictlySortedBy R (x ∷ xs)
        → ((z : A) → Contains (x ∷ xs) z → Contains (y ∷ ys) z) → (z : A) → Contains xs z → Contains ys z
    tails x y xs ys e up into z there = elim (contains_cases y ys z (into z (contains_later x xs z there))) [
      | inl f ↦ absurd (less_itself x (subst (λ w. R x w ≡ Less) (sym f ∙ sym e) (above x z xs up there)))
      | inr k ↦ k
    ]

    heads : (x y : A) (xs ys : List A) → IsStrictlySortedBy R (x ∷ xs) → IsStrictlySortedBy R (y ∷ ys)
        → Contains (y ∷ ys) x → Contains (x ∷ xs) y → x ≡ y
    heads x y xs ys up down c d = elim (contains_cases y ys x c) [
      | inl e ↦ sym e
      | inr h ↦ elim (contains_cases x xs y d) [
        | inl e ↦ e
        | inr k ↦ absurd (less_itself x (o.trans x y x (above x y xs up k) (above y x ys down h)))
      ]
    ]

    pub same_rising : (xs ys : List A) → IsStrictlySortedBy R xs → IsStrictlySortedBy R ys
        → ((z : A) → Contains xs z → Contains ys z) → ((z : A) → Contains ys z → Contains xs z) → xs ≡ ys
    same_rising [] [] up down into back = refl
    same_rising [] (y ∷ ys) up down into back = absurd (let c = back y (contains_first y ys) in omega (arith, c.1))
    same_rising (x ∷ xs) [] up down into back = absurd (let c = into x (contains_first x xs) in omega (arith, c.1))
    same_rising (x ∷ xs) (y ∷ ys) up down into back =
        let e : x ≡ y = heads x y xs ys up down (into x (contains_first x xs)) (back y (contains_first y ys)) in
        let more : xs ≡ ys = same_rising xs ys (sorted_tail R x xs up) (sorted_tail R y ys down)
        (tails x y xs ys e up into) (tails y x ys xs (sym e) down back) in
        λ i. e i ∷ more i

pub known_by_members : {A : Type 0} (R : A → A → Ordering) → IsTotalOrder R → (xs ys : List A)
    → IsStrictlySortedBy R xs → IsStrictlySortedBy R ys → SameMembers xs ys → xs ≡ ys
known_by_members R o xs ys up down same = same_rising o xs ys up down (λ z. (same z).0) (λ z. (same z).1)

-- one row for the ancestors of each
module _ {K : Type 0} (E : K → K → Type 0) (names : List K)
    (apart : (i j : ℕ) (a : K) → slice_get names i ≡ Some a → slice_get names j ≡ Some a → i ≡ j) where
  moved : (a : K) (row other : List ℕ) → IsAncestorRow E names a row → IsAncestorRow E names a other
      → (r : ℕ) → Contains row r → Contains other r
  moved a row other is it r c =
      let (b, at, e) = is.sound r c in
      let (s, there, d) = it.whole b e in
      subst (Contains other) (apart s r b there at) d

  pub one_row : (a : K) (row other : List ℕ) → IsAncestorRow E names a row → IsAncestorRow E names a other → row ≡ other
  one_row a row other is it = same_rising nat_cmp_total row other
      (sorted_from_strictly_increasing row is.rising) (sorted_from_strictly_increasing other it.rising)
      (moved a row other is it) (moved a other row it is)
