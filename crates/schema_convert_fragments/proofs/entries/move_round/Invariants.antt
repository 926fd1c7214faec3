use Rattle.std.proofs.Common.{◌≡◌, ◌<◌, length}
use Rattle.std.specs.List.{All}
use Rattle.std.specs.List.Sorted.{IsPermutation}
use Rattle.schema_convert_fragments.proofs.entries.move_round.Given as goal

abbrev pub invariant-loop : goal.invariant-loop
invariant-loop g l = record {
  at : l.at < length l.fn.items.items;
  moved : IsPermutation l.fn.items.items l.items.items;
  same_len : length l.items.items ≡ length l.fn.items.items;
  len : length l.places.items ≡ length l.fn.items.items;
  in_range : All (λ p. p < length l.fn.items.items) l.places.items;
}
