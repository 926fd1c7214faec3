use Rattle.std.proofs.Common.{map, drop}
use Rattle.std.specs.List.{flat_map}
use Rattle.cedar_identifiers.specs.Names.{components_of}
use Rattle.schema_print.specs.Collisions.{block_shapeless}
use Rattle.schema_print.proofs.Wanted.{Gathers}
use Rattle.schema_print.proofs.unprintable.shapeless.Given as goal

abbrev pub invariant-loop-name : goal.invariant-loop-name
invariant-loop-name g l =
    Gathers (map components_of l.initial.names.items) (map components_of l.names.items)
    (flat_map block_shapeless (drop l.name-index l.name-items)) (flat_map block_shapeless l.name-items)
