use Rattle.std.proofs.Common.{◌≡◌, ◌++◌, drop}
use Rattle.std.specs.List.{filter_map}
use Rattle.schema_convert_faults.specs.Faults.{name_fault}
use Rattle.schema_convert_faults.proofs.faults.name_faults.Given as goal

abbrev pub invariant-loop-namespace : goal.invariant-loop-namespace
invariant-loop-namespace l = l.faults.items ++ filter_map name_fault (drop l.namespace-index l.namespaces)
    ≡ filter_map name_fault l.namespaces
