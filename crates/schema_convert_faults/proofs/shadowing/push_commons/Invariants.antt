use Rattle.std.proofs.Common.{◌≡◌, ◌++◌, map}
use Rattle.std.specs.Vec.Iter.{into_iter_items}
use Rattle.schema_convert_faults.specs.Borrowed.{entry_now}
use Rattle.schema_convert_faults.proofs.Sorted.{of_commons}
use Rattle.schema_convert_faults.proofs.shadowing.push_commons.Given as goal

abbrev pub invariant-loop-common : goal.invariant-loop-common
invariant-loop-common l =
    l.warnings.items ++ of_commons l.table (map entry_now l.entities) (into_iter_items l.common-iterator)
    ≡ l.fn.warnings.items ++ of_commons l.table (map entry_now l.entities) l.fn.commons
