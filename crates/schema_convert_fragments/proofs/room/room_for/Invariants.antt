use Rattle.std.proofs.Common.{◌≤◌, take}
use Rattle.std.specs.List.{sum_by}
use Rattle.schema_convert_fragments.specs.Room.{entity_count, action_count, common_count}
use Rattle.schema_convert_fragments.proofs.room.room_for.Given as goal

abbrev pub invariant-loop-decl : goal.invariant-loop-decl
invariant-loop-decl l = record {
  commons : l.room.commons ≤ sum_by (λ d. common_count d.item.node) (take l.decl-index l.decls);
  entities : l.room.entities ≤ sum_by (λ d. entity_count d.item.node) (take l.decl-index l.decls);
  actions : l.room.actions ≤ sum_by (λ d. action_count d.item.node) (take l.decl-index l.decls);
}
