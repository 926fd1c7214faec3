-- Lists side by side.
use Rattle.std.proofs.Common.{◌≡◌, ℕ, ◌<◌, suc, List, [], ◌∷◌, All, Vec, length, get_or, map, Some, refl, subst, inl}
use Rattle.std.proofs.Common.{inr, arith}
use Rattle.std.specs.Prelude.{slice_get}
use Rattle.std.specs.declared.alloc.Global.{Global}
use Rattle.std.specs.List.{AllZip}
use Rattle.std.proofs.lemmas.List.Elements.{Contains-get_or}
use Rattle.std.proofs.lemmas.Option.{slice_get-get_or, slice_get_cases, slice_get_within}
use Rattle.schema_build_hierarchy.specs.Ancestors.{IsAncestorRow, AreAncestorRows}

module _ {A B : Type 0} (P : A → B → Type 0) where
  -- what holds at each place holds of the lists
  pub at_each : (xs : List A) (ys : List B) → length ys ≡ length xs
      → ((i : ℕ) (a : A) (b : B) → slice_get xs i ≡ Some a → slice_get ys i ≡ Some b → P a b) → AllZip P xs ys
  at_each [] [] same each = tt
  at_each [] (y ∷ ys) same each = absurd (omega (arith, same))
  at_each (x ∷ xs) [] same each = absurd (omega (arith, same))
  at_each (x ∷ xs) (y ∷ ys) same each =
      (each 0 x y refl refl, at_each xs ys (omega (arith, same)) (λ i. each (suc i)))

-- the row of each name is that of its ancestors
pub rows_zip : {K : Type 0} (ancestor : K → K → Type 0) (names : List K) (rows : List (Vec ℕ Global))
    → AreAncestorRows ancestor names rows → AllZip (λ a row. IsAncestorRow ancestor names a row.items) names rows
rows_zip ancestor names rows are =
    at_each (λ a (row : Vec ℕ Global). IsAncestorRow ancestor names a row.items) names rows are.same are.each

-- three lists side by side
pub joined : {A B C : Type 0} (P : A → B → Type 0) (Q : B → C → Type 0) (S : A → C → Type 0)
    → ((a : A) (b : B) (c : C) → P a b → Q b c → S a c)
    → (xs : List A) (ys : List B) (zs : List C) → AllZip P xs ys → AllZip Q ys zs → AllZip S xs zs
joined P Q S step [] [] [] p q = tt
joined P Q S step [] [] (z ∷ zs) p q = q
joined P Q S step [] (y ∷ ys) zs p q = absurd p
joined P Q S step (x ∷ xs) [] zs p q = absurd p
joined P Q S step (x ∷ xs) (y ∷ ys) [] p q = q
joined P Q S step (x ∷ xs) (y ∷ ys) (z ∷ zs) p q = (step x y z p.0 q.0, joined P Q S step xs ys zs p.1 q.1)

-- beside what is seen of a list
pub unmapped : {A B C : Type 0} (g : A → B) (P : B → C → Type 0) (xs : List A) (ys : List C) → AllZip P (map g xs) ys
    → AllZip (λ a. P (g a)) xs ys
unmapped g P [] [] p = tt
unmapped g P [] (y ∷ ys) p = absurd p
unmapped g P (x ∷ xs) [] p = absurd p
unmapped g P (x ∷ xs) (y ∷ ys) p = (p.0, unmapped g P xs ys p.1)

-- lists beside one list, in which each has one item at most beside it, are one
pub one_beside : {A B : Type 0} (P : A → B → Type 0) → ((a : A) (x y : B) → P a x → P a y → x ≡ y)
    → (ds : List A) (xs ys : List B) → AllZip P ds xs → AllZip P ds ys → xs ≡ ys
one_beside P one [] [] [] p q = refl
one_beside P one [] [] (y ∷ ys) p q = absurd q
one_beside P one [] (x ∷ xs) ys p q = absurd p
one_beside P one (d ∷ ds) [] ys p q = absurd p
one_beside P one (d ∷ ds) (x ∷ xs) [] p q = absurd q
one_beside P one (d ∷ ds) (x ∷ xs) (y ∷ ys) p q = λ i. one d x y p.0 q.0 i ∷ one_beside P one ds xs ys p.1 q.1 i

-- the places in the rows are places of names
pub rows_within : {K : Type 0} (ancestor : K → K → Type 0) (names : List K) (rows : List (Vec ℕ Global)) (n : ℕ)
    → length names ≡ n → AreAncestorRows ancestor names rows
    → All (λ (row : Vec ℕ Global). All (λ place. place < n) row.items) rows
rows_within ancestor names rows n many are k row within place index inside =
    let list = get_or rows k row in
    let stands : slice_get rows k ≡ Some list = slice_get-get_or rows k row within in
    elim (slice_get_cases names k).1 [
      | inl a ↦
          let is = are.each k a.0 list a.2 stands in
          let (b, at, above) = is.sound (get_or list.items place index)
          (Contains-get_or list.items place index inside) in
          subst (λ m. get_or list.items place index < m) many
          (slice_get_within names (get_or list.items place index) b at)
      | inr past ↦ absurd (omega (arith, within, past.0, are.same))
    ]
