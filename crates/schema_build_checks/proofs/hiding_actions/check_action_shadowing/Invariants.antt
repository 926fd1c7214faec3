use Rattle.std.proofs.Common.{◌≡◌, map, take}
use Rattle.std.specs.List.{flat_map}
use Rattle.schema_resolve_definitions.specs.Tests.{tests_of}
use Rattle.schema_build_checks.specs.DeclaredAt.{at_of, hiding_actions_in}
use Rattle.schema_build_checks.proofs.hiding_actions.check_action_shadowing.Given as goal

abbrev pub invariant-loop-ns : goal.invariant-loop-ns
invariant-loop-ns l = map at_of l.found.items
    ≡ flat_map (hiding_actions_in (tests_of l.defs)) (take l.ns-index l.ns-items)
