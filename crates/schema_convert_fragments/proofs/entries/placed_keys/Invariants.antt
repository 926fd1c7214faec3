use Rattle.std.proofs.Common.{◌≡◌, ◌<◌, length, map, take}
use Rattle.std.specs.List.{All}
use Rattle.std.specs.Map.{keys_of}
use Rattle.schema_convert_fragments.proofs.entries.placed_keys.Given as goal

abbrev pub invariant-loop-place : goal.invariant-loop-place
invariant-loop-place g l = record {
  keys : map (λ k. k.0.now) l.keys.items ≡ keys_of (take l.place l.entries.items);
  in_range : All (λ k. k.1 < length l.entries.items) l.keys.items;
}
