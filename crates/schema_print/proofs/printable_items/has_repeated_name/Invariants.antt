use Rattle.std.proofs.Common.{◌≡◌, drop}
use Rattle.std.specs.List.{list_any}
use Rattle.schema_print.specs.Collisions.{names_entity_type}
use Rattle.schema_print.proofs.printable_items.has_repeated_name.Given as goal

abbrev pub invariant-loop-id : goal.invariant-loop-id
invariant-loop-id l =
    list_any (λ c. names_entity_type l.namespace.entity_types c.0.id.id.text) (drop l.id-index l.commons)
    ≡ list_any (λ c. names_entity_type l.namespace.entity_types c.0.id.id.text) l.commons
