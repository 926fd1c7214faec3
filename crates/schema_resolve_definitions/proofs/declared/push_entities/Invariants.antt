use Rattle.std.proofs.Common.{◌≡◌, ◌++◌, map, take}
use Rattle.cedar_identifiers.specs.Names.{components_of}
use Rattle.schema_resolve_definitions.specs.Declarations.{declared_name}
use Rattle.schema_resolve_definitions.proofs.declared.push_entities.Given as goal

abbrev pub invariant-loop-id : goal.invariant-loop-id
invariant-loop-id l = map components_of l.names.items ≡ map components_of l.initial.names.items
    ++ map (λ e. components_of (declared_name l.ns e.0.id)) (take l.id-index l.entities)
