use Rattle.std.proofs.Common.{◌≡◌, ◌++◌}
use Rattle.std.specs.Vec.Iter.{into_iter_items}
use Rattle.schema_convert_faults.specs.Shadowings.{warnings_of}
use Rattle.schema_convert_faults.proofs.Sorted.{of_namespaces}
use Rattle.schema_convert_faults.proofs.shadowing.warnings_of.Given as goal

abbrev pub invariant-loop-namespace : goal.invariant-loop-namespace
invariant-loop-namespace l =
    l.warnings.items ++ of_namespaces l.table (into_iter_items l.namespace-iterator) ≡ warnings_of l.table l.namespaces
