use Rattle.std.proofs.Common.{◌≡◌, ◌++◌, take}
use Rattle.std.specs.List.{flat_map}
use Rattle.schema_resolve_definitions.specs.Tests.{tests_of}
use Rattle.schema_build_checks.specs.DeclaredAt.{hiding_entity}
use Rattle.schema_build_checks.proofs.hiding_types.push_hiding_entities.Given as goal

abbrev pub invariant-loop-id : goal.invariant-loop-id
invariant-loop-id l =
    l.found.items ≡ l.initial.found.items
    ++ flat_map (hiding_entity (tests_of l.defs) l.ns) (take l.id-index l.entities)
