use Rattle.std.proofs.Common.{◌≡◌, ◌++◌}
use Rattle.std.specs.Vec.Iter.{into_iter_items}
use Rattle.schema_convert_faults.proofs.faults.push_faults.Given as goal

abbrev pub invariant-loop-fault : goal.invariant-loop-fault
invariant-loop-fault l = l.faults.items ++ into_iter_items l.fault-iterator ≡ l.fn.faults.items ++ l.fn.more.items
