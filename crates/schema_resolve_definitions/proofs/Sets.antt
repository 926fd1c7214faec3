-- Lists to which others are added, item by item.
use Rattle.std.proofs.Common.{◌≡◌, ℕ, ◌+◌, ◌<◌, ◌≤◌, List, [], ◌∷◌, ◌++◌, map, length, get_or, take, refl, sym, ap, ◌∙◌}
use Rattle.std.proofs.Common.{append_assoc, append-nil, add-one}
use Rattle.std.specs.List.{flat_map}
use Rattle.std.proofs.Math.Seq.{take-suc}
use Rattle.std.proofs.lemmas.List.{map-append, take_all}

-- what a list gives, each item a list
module _ {A B : Type 0} (f : A → List B) where
  given_parts : (xs : List A) (x : A) → flat_map f (xs ++ x ∷ []) ≡ flat_map f xs ++ f x
  given_parts [] x = append-nil (f x)
  given_parts (y ∷ ys) x = ap (λ l. f y ++ l) (given_parts ys x) ∙ sym (append_assoc (f y) (flat_map f ys) (f x))

  given_more : (xs : List A) (i : ℕ) (d : A) → i < length xs → d ≡ get_or xs i d
      → flat_map f (take (i + 1) xs) ≡ flat_map f (take i xs) ++ f d
  given_more xs i d l e = rw (add-one, take-suc xs i d l)
      (given_parts (take i xs) (get_or xs i d) ∙ ap (λ x. flat_map f (take i xs) ++ f x) (sym e))

  -- one more item's
  pub next_given : (xs : List A) (i : ℕ) (d : A) (old now new : List B) → i < length xs → d ≡ get_or xs i d
      → now ≡ old ++ flat_map f (take i xs) → new ≡ now ++ f d → new ≡ old ++ flat_map f (take (i + 1) xs)
  next_given xs i d old now new l e before step =
      step ∙ ap (λ x. x ++ f d) before ∙ append_assoc old (flat_map f (take i xs)) (f d)
      ∙ ap (λ x. old ++ x) (sym (given_more xs i d l e))

  pub all_given : (xs : List A) (i : ℕ) (old now : List B) → length xs ≤ i → now ≡ old ++ flat_map f (take i xs)
      → now ≡ old ++ flat_map f xs
  all_given xs i old now l before = before ∙ ap (λ x. old ++ flat_map f x) (take_all i xs l)

-- a list to which each item gives one more
module _ {A K N : Type 0} (view : K → N) (f : A → N) where
  -- one more item's
  pub next_pushed : (xs : List A) (i : ℕ) (d : A) (old now new : List K) (k : K) → i < length xs → d ≡ get_or xs i d
      → map view now ≡ map view old ++ map f (take i xs) → new ≡ now ++ k ∷ [] → view k ≡ f d
      → map view new ≡ map view old ++ map f (take (i + 1) xs)
  next_pushed xs i d old now new k l e before step same =
      rw (add-one, take-suc xs i d l, map-append)
      (ap (map view) step ∙ map-append view now (k ∷ []) ∙ (λ j. before j ++ same j ∷ [])
      ∙ append_assoc (map view old) (map f (take i xs)) (f d ∷ [])
      ∙ ap (λ x. map view old ++ (map f (take i xs) ++ f x ∷ [])) e)

  pub all_pushed : (xs : List A) (i : ℕ) (old now : List K) → length xs ≤ i
      → map view now ≡ map view old ++ map f (take i xs) → map view now ≡ map view old ++ map f xs
  all_pushed xs i old now l before = before ∙ ap (λ x. map view old ++ map f x) (take_all i xs l)

pub given_of : {A B C : Type 0} (g : A → B) (f : B → List C) (xs : List A)
    → flat_map (λ x. f (g x)) xs ≡ flat_map f (map g xs)
given_of g f [] = refl
given_of g f (x ∷ xs) = ap (λ l. f (g x) ++ l) (given_of g f xs)
