use Rattle.std.proofs.Common.{◌≡◌, ◌++◌, drop}
use Rattle.schema_convert_faults.specs.Faults.{entity_faults}
use Rattle.schema_convert_faults.proofs.faults.entity_faults.Given as goal

abbrev pub invariant-loop-decl : goal.invariant-loop-decl
invariant-loop-decl l =
    l.faults.items ++ entity_faults (drop l.decl-index l.decls) ≡ entity_faults l.decls
