-- Searches by halving among items that rise, and what they cost. A place says how an item stands to what is sought.
use Rattle.std.specs.Prelude.{◌≡◌, ◌+◌, ◌-◌, ◌*◌, ◌^◌, ◌<◌, ◌≤◌, ℕ, Bool, true, false, List, length, slice_index_or}
use Rattle.std.specs.declared.cmp.Ordering.{Ordering}
use Rattle.std.specs.declared.cmp.Ordering.TheVariants.{Less, Equal, Greater}

-- the item at this index is the one that is sought
pub record IsAt {T : Type 0} (place : T → Ordering) (items : List T) (at : ℕ) : Type 0 where
  pub in_range : at < length items
  pub equal : (d : T) → place (slice_index_or items at d) ≡ Equal

-- the items before low are below what is sought, and those from high on are above it
pub record StandsWithin {T : Type 0} (place : T → Ordering) (items : List T) (low high : ℕ) : Type 0 where
  pub in_range : high ≤ length items
  pub below : (k : ℕ) (d : T) → k < low → place (slice_index_or items k d) ≡ Less
  pub above : (k : ℕ) (d : T) → high ≤ k → k < length items → place (slice_index_or items k d) ≡ Greater

-- what a step adds, where it counts
abbrev pub one_if : Bool → ℕ
one_if true = 1
one_if false = 0

-- what was counted from old to new, where n items are searched: two to the power of it is at most 2n + 1, and where
-- there is an item, at least one step was counted
pub record IsSpent (counts : Bool) (old new n : ℕ) : Type 0 where
  pub counted : old ≤ new
  pub cost : 2 ^ (new - old) ≤ 2 * n + 1
  pub some : 0 < n → old + one_if counts ≤ new
