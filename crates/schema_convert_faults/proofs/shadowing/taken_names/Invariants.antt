use Rattle.std.proofs.Common.{◌≡◌, ◌++◌, drop, map}
use Rattle.std.specs.List.{filter}
use Rattle.schema_convert_faults.specs.NamesIn.{entity_names_in}
use Rattle.schema_convert_faults.specs.Shadowings.{is_taken}
use Rattle.schema_convert_faults.proofs.shadowing.taken_names.Given as goal

abbrev pub invariant-loop-decl : goal.invariant-loop-decl
invariant-loop-decl l =
    map (λ x. x.now) l.taken.items
    ++ filter (λ n. is_taken l.table n.node.text) (entity_names_in (drop l.decl-index l.decls))
    ≡ filter (λ n. is_taken l.table n.node.text) (entity_names_in l.decls)
