use Rattle.std.proofs.Common.{◌≡◌, ◌++◌, drop}
use Rattle.schema_convert_faults.specs.Faults.{action_faults}
use Rattle.schema_convert_faults.proofs.faults.action_faults.Given as goal

abbrev pub invariant-loop-decl : goal.invariant-loop-decl
invariant-loop-decl l = l.faults.items ++ action_faults (drop l.decl-index l.decls) ≡ action_faults l.decls
