use Rattle.std.proofs.Common.{◌≡◌, ◌++◌, map, take}
use Rattle.schema_build_types.specs.Content.{entity_content, action_content}
use Rattle.schema_build_text.specs.Items.{item_content}
use Rattle.schema_build_text.specs.Walk.{entity_type, action}
use Rattle.schema_build_text.proofs.items.lend_items.Given as goal

abbrev pub invariant-loop-entity : goal.invariant-loop-entity
invariant-loop-entity l = map item_content l.items.items
    ≡ map (λ e. entity_type (entity_content e)) (take l.entity-index l.entities)

abbrev pub invariant-loop-action : goal.invariant-loop-action
invariant-loop-action l =
    map item_content l.items.items ≡ map (λ e. entity_type (entity_content e)) l.entities
    ++ map (λ a. action (action_content a)) (take l.action-index l.actions)
