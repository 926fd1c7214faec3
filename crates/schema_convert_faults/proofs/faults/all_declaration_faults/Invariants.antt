use Rattle.std.proofs.Common.{◌≡◌, ◌++◌, drop}
use Rattle.schema_convert_faults.specs.Faults.{all_declaration_faults}
use Rattle.schema_convert_faults.proofs.faults.all_declaration_faults.Given as goal

abbrev pub invariant-loop-namespace : goal.invariant-loop-namespace
invariant-loop-namespace l = l.faults.items ++ all_declaration_faults (drop l.namespace-index l.namespaces)
    ≡ all_declaration_faults l.namespaces
