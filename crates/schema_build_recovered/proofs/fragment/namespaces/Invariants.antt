use Rattle.std.proofs.Common.{◌≡◌, ◌++◌, map, take}
use Rattle.schema_build_recovered.proofs.Halves.{entity_key, action_key}
use Rattle.schema_build_recovered.proofs.Walks.{words}
use Rattle.schema_build_recovered.proofs.fragment.namespaces.Given as goal

abbrev pub invariant-loop-entity : goal.invariant-loop-entity
invariant-loop-entity l = words l.all.items ≡ map entity_key (take l.entity-index l.entities)

abbrev pub invariant-loop-action : goal.invariant-loop-action
invariant-loop-action l = words l.all.items ≡ map entity_key l.entities
    ++ map action_key (take l.action-index l.actions)

abbrev pub invariant-loop-at : goal.invariant-loop-at
invariant-loop-at l = l.namespaces.items ≡ take l.at (map (λ x. x.now) l.rising.items)
