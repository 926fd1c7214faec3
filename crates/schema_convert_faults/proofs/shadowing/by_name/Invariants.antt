use Rattle.std.proofs.Common.{◌≡◌, ◌++◌, drop, map}
use Rattle.schema_convert_faults.specs.Borrowed.{optional_now}
use Rattle.schema_convert_faults.proofs.Sorted.{name_entries}
use Rattle.schema_convert_faults.proofs.shadowing.by_name.Given as goal

abbrev pub invariant-loop-namespace : goal.invariant-loop-namespace
invariant-loop-namespace l = map optional_now l.entries.items ++ name_entries (drop l.namespace-index l.namespaces)
    ≡ name_entries l.namespaces
