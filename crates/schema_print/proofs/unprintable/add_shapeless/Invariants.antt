use Rattle.std.proofs.Common.{map, drop}
use Rattle.std.specs.Prelude.{filter}
use Rattle.cedar_identifiers.specs.Names.{components_of}
use Rattle.schema_print.specs.Collisions.{declared_in, is_shapeless}
use Rattle.schema_print.proofs.Wanted.{Gathers}
use Rattle.schema_print.proofs.unprintable.add_shapeless.Given as goal

abbrev pub invariant-loop-id : goal.invariant-loop-id
invariant-loop-id g l =
    Gathers (map components_of l.initial.names.items) (map components_of l.names.items)
    (map (λ e. declared_in l.name e.0.id.text) (filter (λ e. is_shapeless e.1) (drop l.id-index l.entity_types)))
    (map (λ e. declared_in l.name e.0.id.text) (filter (λ e. is_shapeless e.1) l.entity_types))
