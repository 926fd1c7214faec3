-- Entries whose keys rise, and places among them.
use Rattle.std.specs.Prelude.{◌≡◌, ◌<◌, ◌≤◌, ℕ, List, length, slice_index_or}
use Rattle.std.specs.declared.cmp.Ordering.{Ordering}
use Rattle.std.specs.declared.cmp.Ordering.TheVariants.{Less}

module _ {K X : Type 0} (C : K → K → Ordering) (key : X → K) where
  -- the keys before the place are less
  abbrev pub AreBelow : List X → ℕ → K → Type 0
  AreBelow xs at q = (k : ℕ) (d : X) → k < at → C (key (slice_index_or xs k d)) q ≡ Less

  -- the keys of the first before the one place are less than those of the second from the other place on
  abbrev pub AreAllBelow : List X → List X → ℕ → ℕ → Type 0
  AreAllBelow xs ys next at = (j : ℕ) (e : X) → at ≤ j → j < length ys → AreBelow xs next (key (slice_index_or ys j e))
