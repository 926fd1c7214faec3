use Rattle.std.proofs.Common.{◌≡◌, ◌++◌}
use Rattle.std.specs.Vec.Iter.{into_iter_items}
use Rattle.schema_resolve_errors.proofs.joining.add_all.Given as goal

abbrev pub invariant-loop-item : goal.invariant-loop-item
invariant-loop-item g l = l.tail.items ++ into_iter_items l.item-iterator ≡ l.fn.tail.items ++ l.fn.items
