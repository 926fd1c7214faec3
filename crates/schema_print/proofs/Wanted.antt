-- Names that are gathered, item by item.
use Rattle.std.proofs.Common.{◌≡◌, ℕ, ◌+◌, suc, ◌<◌, Bool, true, false, List, [], ◌∷◌, ◌++◌, map, length, drop}
use Rattle.std.proofs.Common.{drop-cons, get_or, add-one, refl, ap, sym, ◌∙◌, append_assoc, subst}
use Rattle.std.specs.Prelude.{filter}
use Rattle.std.specs.List.{flat_map}
use Rattle.std.proofs.lemmas.List.{append-nil}
use Rattle.cedar_identifiers.specs.Names.{components_of}
use Rattle.cedar_identifiers.specs.declared.internal_name.InternalName.{InternalName}
use Rattle.std.specs.List.Sorted.{IsSorted, IsPermutation}
use Rattle.std.specs.declared.cmp.Ordering.{Ordering}
use Rattle.std.proofs.lemmas.List.Sorted.{IsPermutation-map}
use Rattle.schema_print.specs.Collisions.{if_wanted, AreSortedNames}

-- with what is left, the names are all
pub record Gathers (initial names left all : List (List (List ℕ))) : Type 0 where
  pub meets : names ++ left ≡ initial ++ all

pub gathers_begun : (a b all : List (List (List ℕ))) → a ≡ b → Gathers a b all all
gathers_begun a b all e = record { meets = ap (λ t. t ++ all) (sym e) }

pub gathers_round : {initial a b left next all : List (List (List ℕ))} (x : List (List (List ℕ))) → b ≡ a ++ x
    → Gathers initial a left all → left ≡ x ++ next
    → Gathers initial b next all
gathers_round {initial} {a} {b} {left} {next} {all} x e l f =
    record { meets = ap (λ t. t ++ next) e ∙ (append_assoc a x next ∙ (ap (λ t. a ++ t) (sym f) ∙ l.meets)) }

pub gathers_ended : {initial a left all : List (List (List ℕ))} → Gathers initial a left all → left ≡ []
    → a ≡ initial ++ all
gathers_ended {initial} {a} {left} {all} l e = sym (append-nil a) ∙ (ap (λ t. a ++ t) (sym e) ∙ l.meets)

one_wanted : {A : Type 0} (p : A → Bool) (f : A → List (List ℕ)) (x : A) (xs : List A) (b : Bool) → p x ≡ b
    → map f (filter p (x ∷ xs)) ≡ if_wanted b (f x) ++ map f (filter p xs)
one_wanted p f x xs true h = rw h refl
one_wanted p f x xs false h = rw h refl

-- one more item
pub wanted_step : {A : Type 0} (p : A → Bool) (f : A → List (List ℕ)) (xs : List A) (i : ℕ) (d : A) → i < length xs
    → d ≡ get_or xs i d
    → map f (filter p (drop i xs)) ≡ if_wanted (p d) (f d) ++ map f (filter p (drop (i + 1) xs))
wanted_step p f xs i d h e =
    rw (add-one, drop-cons xs i d)
    (ap (λ x. map f (filter p (x ∷ drop (suc i) xs))) (sym e) ∙ one_wanted p f d (drop (suc i) xs) (p d) refl)

-- one more namespace
pub given_step : {A : Type 0} (f : A → List (List (List ℕ))) (xs : List A) (i : ℕ) (d : A) → i < length xs
    → d ≡ get_or xs i d
    → flat_map f (drop i xs) ≡ f d ++ flat_map f (drop (i + 1) xs)
given_step f xs i d h e = rw (add-one, drop-cons xs i d) (ap (λ x. f x ++ flat_map f (drop (suc i) xs)) (sym e))

-- names that were sorted
pub sorted_by : (cmp : InternalName → InternalName → Ordering) (xs ys found : List InternalName) → IsSorted cmp ys
    → IsPermutation xs ys
    → found ≡ ys → AreSortedNames cmp (map components_of xs) found
sorted_by cmp xs ys found s p e = record {
  sorted = subst (λ t. IsSorted cmp t) (sym e) s;
  all = subst (λ t. IsPermutation (map components_of xs) (map components_of t)) (sym e)
      (IsPermutation-map components_of xs ys p);
}
