use Rattle.std.proofs.Common.{◌≡◌, ◌++◌, map, take}
use Rattle.std.specs.List.{flat_map}
use Rattle.schema_resolve_definitions.specs.Tests.{tests_of}
use Rattle.schema_build_checks.specs.DeclaredAt.{at_of, hiding_action}
use Rattle.schema_build_checks.proofs.hiding_actions.push_hiding.Given as goal

abbrev pub invariant-loop-id : goal.invariant-loop-id
invariant-loop-id l =
    map at_of l.found.items ≡ map at_of l.initial.found.items
    ++ flat_map (hiding_action (tests_of l.defs) l.ns) (take l.id-index l.actions)
