use Rattle.std.proofs.Common.{◌≡◌, ◌++◌, map, take}
use Rattle.std.specs.List.{flat_map}
use Rattle.schema_build_scope.specs.LentCommons.{lent_type}
use Rattle.schema_build_scope.specs.Uses.{used_by_kind}
use Rattle.schema_build_scope.proofs.lent_uses.push_entities.Given as goal

abbrev pub invariant-loop-entity : goal.invariant-loop-entity
invariant-loop-entity l =
    map lent_type l.uses.items
    ≡ map lent_type l.initial.uses.items ++ flat_map (λ d. used_by_kind l.ns d.1.kind) (take l.entity-index l.entities)
