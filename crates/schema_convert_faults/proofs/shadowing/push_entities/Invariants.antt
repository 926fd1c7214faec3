use Rattle.std.proofs.Common.{◌≡◌, ◌++◌}
use Rattle.std.specs.Vec.Iter.{into_iter_items}
use Rattle.schema_convert_faults.proofs.Sorted.{of_entities}
use Rattle.schema_convert_faults.proofs.shadowing.push_entities.Given as goal

abbrev pub invariant-loop-entity : goal.invariant-loop-entity
invariant-loop-entity l =
    l.warnings.items ++ of_entities l.table (into_iter_items l.entity-iterator) ≡ l.fn.warnings.items
    ++ of_entities l.table l.fn.entities
