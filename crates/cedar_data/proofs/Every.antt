-- What holds of each item of a list.
use Rattle.std.proofs.Common.{◌≡◌, Bool, true, List, [], ◌∷◌, ◌++◌, map, filter}
use Rattle.std.specs.List.{AllByRecursion}
use Rattle.std.proofs.lemmas.List.Elements as by_place
use Rattle.std.proofs.lemmas.List.Elements.{All-from_recursion, recursion_from_All}

module _ {X : Type 0} (P : X → Type 0) where
  pub All-append : (xs ys : List X) → AllByRecursion P xs → AllByRecursion P ys → AllByRecursion P (xs ++ ys)
  All-append [] ys h k = k
  All-append (x ∷ xs) ys h k = (h.0, All-append xs ys h.1 k)

  pub All-weaker : (Q : X → Type 0) → ((x : X) → P x → Q x) → (xs : List X) → AllByRecursion P xs
      → AllByRecursion Q xs
  All-weaker Q follows [] h = tt
  All-weaker Q follows (x ∷ xs) h = (follows x h.0, All-weaker Q follows xs h.1)

  pub All-map : {Y : Type 0} (f : Y → X) (ys : List Y) → AllByRecursion (λ y. P (f y)) ys → AllByRecursion P (map f ys)
  All-map f [] h = tt
  All-map f (y ∷ ys) h = (h.0, All-map f ys h.1)

  pub all_front : (xs ys : List X) → AllByRecursion P (xs ++ ys) → AllByRecursion P xs
  all_front [] ys h = tt
  all_front (x ∷ xs) ys h = (h.0, all_front xs ys h.1)

  pub all_back : (xs ys : List X) → AllByRecursion P (xs ++ ys) → AllByRecursion P ys
  all_back [] ys h = h
  all_back (x ∷ xs) ys h = all_back xs ys h.1

  pub at_middle : (xs : List X) (x : X) (ys : List X) → AllByRecursion P (xs ++ x ∷ ys) → P x
  at_middle xs x ys h = (all_back xs (x ∷ ys) h).0

  -- what holds of anything holds of each item
  pub all_of_any : ((x : X) → P x) → (xs : List X) → AllByRecursion P xs
  all_of_any h [] = tt
  all_of_any h (x ∷ xs) = (h x, all_of_any h xs)

  -- what holds of each item of what a list is mapped to
  pub all_unmapped : {Y : Type 0} (f : Y → X) (ys : List Y) → AllByRecursion P (map f ys)
      → AllByRecursion (λ y. P (f y)) ys
  all_unmapped f [] h = tt
  all_unmapped f (y ∷ ys) h = (h.0, all_unmapped f ys h.1)

  -- what follows of two things that hold of each item
  pub all_both : (Q R : X → Type 0) → ((x : X) → P x → Q x → R x) → (xs : List X) → AllByRecursion P xs
      → AllByRecursion Q xs → AllByRecursion R xs
  all_both Q R follows [] h k = tt
  all_both Q R follows (x ∷ xs) h k = (follows x h.0 k.0, all_both Q R follows xs h.1 k.1)

module _ {X : Type 0} (p : X → Bool) where
  pub all_kept_by : (P : X → Type 0) (xs : List X) → AllByRecursion P xs → AllByRecursion P (filter p xs)
  all_kept_by P xs h = recursion_from_All P (filter p xs) (by_place.All-filter p P xs (All-from_recursion P xs h))

  pub kept_by_passes : (xs : List X) → AllByRecursion (λ x. p x ≡ true) (filter p xs)
  kept_by_passes xs = recursion_from_All (λ x. p x ≡ true) (filter p xs) (by_place.filter_passes p xs)
