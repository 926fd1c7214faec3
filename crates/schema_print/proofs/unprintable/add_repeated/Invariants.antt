use Rattle.std.proofs.Common.{map, drop}
use Rattle.std.specs.Prelude.{filter}
use Rattle.cedar_identifiers.specs.Names.{components_of}
use Rattle.schema_print.specs.Collisions.{declared_in, names_entity_type}
use Rattle.schema_print.proofs.Wanted.{Gathers}
use Rattle.schema_print.proofs.unprintable.add_repeated.Given as goal

abbrev pub invariant-loop-id : goal.invariant-loop-id
invariant-loop-id g l =
    Gathers (map components_of l.initial.names.items) (map components_of l.names.items)
    (map (λ e. declared_in l.name e.0.id.id.text)
    (filter (λ e. names_entity_type l.namespace.entity_types e.0.id.id.text) (drop l.id-index l.id-items)))
    (map (λ e. declared_in l.name e.0.id.id.text)
    (filter (λ e. names_entity_type l.namespace.entity_types e.0.id.id.text) l.id-items))
