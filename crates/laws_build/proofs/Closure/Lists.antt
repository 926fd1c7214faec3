-- Members of lists, and lists side by side.
use Rattle.std.proofs.Common.{◌≡◌, Bool, true, false, cond, List, [], ◌∷◌, Contains, Ordering}
use Rattle.std.proofs.Common.{refl, sym, ap, ◌∙◌, subst, inl, inr, arith}
use Rattle.std.specs.List.{AllByRecursion, AllZip}
use Rattle.std.specs.List.Sorted.{IsStrictlySortedBy}
use Rattle.std.specs.declared.cmp.Ordering.TheVariants.{Less, Equal, Greater}
use Rattle.std.specs.Cmp.{IsTotalOrder}
use Rattle.std.specs.Ordering.{ordering_reverse}
use Rattle.std.proofs.lemmas.Map.Keys.{sorted_head, sorted_tail}
use Rattle.std.proofs.lemmas.List.Elements.{All-contains, All-from_recursion, All-weaker, All-contains_itself}
use Rattle.std.proofs.lemmas.List.Elements.{recursion_from_All}
use Rattle.cedar_data.proofs.Lists.{contains_first, contains_later}
use Rattle.schema_build_hierarchy.proofs.Once.{contains_cases}

pub has_none : {A X : Type 0} (x : A) → Contains [] x → X
has_none x c = absurd (omega (arith, c.1))

pub no_members : {A : Type 0} (xs : List A) → ((x : A) → Contains xs x → ⊥) → xs ≡ []
no_members [] none = refl
no_members (x ∷ xs) none = absurd (none x (contains_first x xs))

-- what holds of all holds of each, and the other way round
pub each_has : {A : Type 0} (P : A → Type 0) (xs : List A) (x : A) → AllByRecursion P xs → Contains xs x → P x
each_has P xs x h c = All-contains P xs x (All-from_recursion P xs h) c

pub all_have : {A : Type 0} (P : A → Type 0) (xs : List A) → ((x : A) → Contains xs x → P x) → AllByRecursion P xs
all_have P xs each = recursion_from_All P xs (All-weaker (Contains xs) P (λ x c. each x c) xs (All-contains_itself xs))

pub empty_where : {A : Type 0} (b : Bool) (x : A) → cond b (x ∷ []) [] ≡ [] → b ≡ false
empty_where true x e = absurd (cc)
empty_where false x e = refl

module _ {A B : Type 0} (P : A → B → Type 0) where
  pub beside_right : (xs : List A) (ys : List B) → AllZip P xs ys → (y : B) → Contains ys y
      → (x : A) × Contains xs x × P x y
  beside_right [] [] z y c = has_none y c
  beside_right [] (w ∷ ys) z y c = absurd z
  beside_right (x ∷ xs) [] z y c = absurd z
  beside_right (x ∷ xs) (w ∷ ys) z y c = elim (contains_cases w ys y c) [
    | inl same ↦ (x, contains_first x xs, subst (P x) same z.0)
    | inr more ↦ (let (k, ck, pk) = beside_right xs ys z.1 y more in (k, contains_later x xs k ck, pk))
  ]

  pub beside_left : (xs : List A) (ys : List B) → AllZip P xs ys → (x : A) → Contains xs x
      → (y : B) × Contains ys y × P x y
  beside_left [] [] z x c = has_none x c
  beside_left [] (w ∷ ys) z x c = absurd z
  beside_left (v ∷ xs) [] z x c = absurd z
  beside_left (v ∷ xs) (y ∷ ys) z x c = elim (contains_cases v xs x c) [
    | inl same ↦ (y, contains_first y ys, subst (λ w. P w y) same z.0)
    | inr more ↦ (let (k, ck, pk) = beside_left xs ys z.1 x more in (k, contains_later y ys k ck, pk))
  ]

  -- what stands beside a list that rises rises, where the orders agree
  module _ (R : A → A → Ordering) (S : B → B → Ordering)
      (agree : (a b : A) (x y : B) → P a x → P b y → S x y ≡ R a b) where
    heads_rise : (a : A) (x : B) → P a x → (xs : List A) (ys : List B) → AllZip P xs ys
        → AllByRecursion (λ b. R a b ≡ Less) xs → AllByRecursion (λ y. S x y ≡ Less) ys
    heads_rise a x p [] [] z h = tt
    heads_rise a x p [] (y ∷ ys) z h = absurd z
    heads_rise a x p (b ∷ xs) [] z h = absurd z
    heads_rise a x p (b ∷ xs) (y ∷ ys) z h = (agree a b x y p z.0 ∙ h.0, heads_rise a x p xs ys z.1 h.1)

    pub beside_rises : (xs : List A) (ys : List B) → AllZip P xs ys → IsStrictlySortedBy R xs
        → IsStrictlySortedBy S ys
    unfolding IsStrictlySortedBy
    beside_rises [] [] z up = tt
    beside_rises [] (y ∷ ys) z up = absurd z
    beside_rises (x ∷ xs) [] z up = absurd z
    beside_rises (x ∷ xs) (y ∷ ys) z up = (heads_rise x y z.0 xs ys z.1 up.0, beside_rises xs ys z.1 up.1)

-- items that an order does not tell apart are one in a list that rises
module _ {A : Type 0} {R : A → A → Ordering} (o : IsTotalOrder R) where
  greater_than : (k : A) (ks : List A) → IsStrictlySortedBy R (k ∷ ks) → (y : A) → Contains ks y → R k y ≡ Less
  greater_than k ks up y c = each_has (λ z. R k z ≡ Less) ks y (sorted_head R k ks up) c

  pub one_member : (xs : List A) → IsStrictlySortedBy R xs → (x y : A) → Contains xs x → Contains xs y
      → R x y ≡ Equal → x ≡ y
  one_member [] up x y c d e = has_none x c
  one_member (k ∷ ks) up x y c d e = elim (contains_cases k ks x c) [
    | inl here ↦ elim (contains_cases k ks y d) [
      | inl also ↦ sym here ∙ also
      | inr there ↦ absurd (
          let less : R x y ≡ Less = ap (λ z. R z y) (sym here) ∙ greater_than k ks up y there in
          let no : Less ≡ Equal = sym less ∙ e in cc)
    ]
    | inr later ↦ elim (contains_cases k ks y d) [
      | inl here ↦ absurd (
          let less : R y x ≡ Less = ap (λ z. R z x) (sym here) ∙ greater_than k ks up x later in
          let more : R x y ≡ Greater = o.antisymm x y ∙ ap ordering_reverse less in
          let no : Greater ≡ Equal = sym more ∙ e in cc)
      | inr also ↦ one_member ks (sorted_tail R k ks up) x y later also e
    ]
  ]
