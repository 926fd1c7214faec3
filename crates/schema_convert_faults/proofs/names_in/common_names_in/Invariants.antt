use Rattle.std.proofs.Common.{◌≡◌, ◌++◌, drop, map}
use Rattle.schema_convert_faults.specs.NamesIn.{common_names_in}
use Rattle.schema_convert_faults.proofs.names_in.common_names_in.Given as goal

abbrev pub invariant-loop-decl : goal.invariant-loop-decl
invariant-loop-decl l = map (λ x. x.now) l.names.items ++ common_names_in (drop l.decl-index l.decls)
    ≡ common_names_in l.decls
