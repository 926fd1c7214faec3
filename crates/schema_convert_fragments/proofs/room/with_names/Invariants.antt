use Rattle.std.proofs.Common.{◌+◌, ◌≤◌, length}
use Rattle.cedar_data.specs.NonEmpty.{items_left}
use Rattle.schema_convert_fragments.proofs.room.with_names.Given as goal

abbrev pub invariant-loop : goal.invariant-loop
invariant-loop g l = l.count + length (items_left l.iterator') ≤ l.fn.count + length (items_left l.fn.names)
