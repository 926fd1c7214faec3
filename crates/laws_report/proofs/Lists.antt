-- Lists of values.
use Rattle.std.proofs.Common.{ℕ, ◌≤◌, max, List, [], ◌∷◌, map, arith}
use Rattle.std.specs.Prelude.{All}
use Rattle.std.proofs.lemmas.List.Elements.{All-head, All-tail}
use Rattle.serde_json.specs.Data.{Data, depth, items_depth}
use Rattle.serde_json.specs.View.{items_of}
use Rattle.laws_report.proofs.Tidy.{Tidy, ItemsTidy}

module _ {X : Type 0} (f : X → Data) where
  pub items_tidy : (xs : List X) → All (λ x. Tidy (f x)) xs → ItemsTidy (items_of (map f xs))
  items_tidy [] all = tt
  items_tidy (x ∷ xs) all =
      (All-head (λ x. Tidy (f x)) x xs all, items_tidy xs (All-tail (λ x. Tidy (f x)) x xs all))

  pub items_shallow : (most : ℕ) → ((x : X) → depth (f x) ≤ most) → (xs : List X)
      → items_depth (items_of (map f xs)) ≤ most
  items_shallow most each [] = omega arith
  items_shallow most each (x ∷ xs) = both (depth (f x)) (items_depth (items_of (map f xs))) (each x)
      (items_shallow most each xs)
    where
      both : (a b : ℕ) → a ≤ most → b ≤ most → max a b ≤ most
      both a b h k = omega (arith, h, k)
