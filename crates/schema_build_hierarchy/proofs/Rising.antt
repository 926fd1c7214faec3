-- Lists each of whose items is below the next, by what is seen of the items.
use Rattle.std.proofs.Common.{◌≡◌, ◌+◌, ◌<◌, ℕ, List, [], ◌∷◌, length, map, get_or, All, Contains}
use Rattle.std.specs.declared.cmp.Ordering.{Ordering}
use Rattle.std.specs.declared.cmp.Ordering.TheVariants.{Less}
use Rattle.std.specs.Cmp.{IsTotalOrder}
use Rattle.std.specs.List.Sorted.{IsStrictlySortedBy}
use Rattle.std.proofs.lemmas.Cmp.{on_total, tied_itself}
use Rattle.std.proofs.lemmas.List.Elements.{All-weaker, All-contains_itself}
use Rattle.std.proofs.lemmas.Map.Keys.{sorted_from_all_adjacent}
use Rattle.cedar_data.proofs.Lists.{contains_map}
use Rattle.schema_build_hierarchy.specs.FirstUses.{HasAlike}
use Rattle.schema_build_hierarchy.proofs.Ordered.{sorted_seen}

module _ {E K : Type 0} (f : E → K) {R : K → K → Ordering} (o : IsTotalOrder R) where
  pub rising_seen : (xs : List E)
      → ((k : ℕ) (d : E) → k + 1 < length xs → R (f (get_or xs k d)) (f (get_or xs (k + 1) d)) ≡ Less)
      → IsStrictlySortedBy R (map f xs)
  unfolding IsStrictlySortedBy
  rising_seen [] h = tt
  rising_seen (x ∷ xs) h =
      sorted_seen f R (x ∷ xs) (sorted_from_all_adjacent (on_total f o) (x ∷ xs) x (λ k lt. h k x lt))

  -- each is, as the order sees it, the same as itself
  pub alike_itself : (xs : List E) → All (λ e. HasAlike R (map f xs) (f e)) xs
  alike_itself xs = All-weaker (Contains xs) (λ e. HasAlike R (map f xs) (f e))
      (λ e c. (f e, contains_map f xs e c, tied_itself o (f e))) xs (All-contains_itself xs)
