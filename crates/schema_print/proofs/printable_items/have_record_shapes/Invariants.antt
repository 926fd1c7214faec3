use Rattle.std.proofs.Common.{◌≡◌, not, drop}
use Rattle.std.specs.List.{list_all}
use Rattle.schema_print.specs.Collisions.{is_shapeless}
use Rattle.schema_print.proofs.printable_items.have_record_shapes.Given as goal

abbrev pub invariant-loop-entity_type : goal.invariant-loop-entity_type
invariant-loop-entity_type l =
    list_all (λ t. not (is_shapeless t.1)) (drop l.entity_type-index l.entity_types)
    ≡ list_all (λ t. not (is_shapeless t.1)) l.entity_types
