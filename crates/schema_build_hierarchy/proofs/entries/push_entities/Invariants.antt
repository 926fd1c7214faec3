use Rattle.std.proofs.Common.{◌≡◌, ◌++◌, map, take}
use Rattle.schema_build_hierarchy.specs.Declarations.{entity_in}
use Rattle.schema_build_hierarchy.specs.Entries.{entity_of}
use Rattle.schema_build_hierarchy.proofs.entries.push_entities.Given as goal

abbrev pub invariant-loop-id : goal.invariant-loop-id
invariant-loop-id l = map entity_of l.entries.items ≡ map entity_of l.initial.entries.items
    ++ map (entity_in l.ns) (take l.id-index l.entities)
