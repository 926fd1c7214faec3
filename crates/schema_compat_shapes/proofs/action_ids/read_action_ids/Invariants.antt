use Rattle.std.proofs.Common.{drop}
use Rattle.std.specs.Prelude.{codes}
use Rattle.serde_json.specs.View.{items_view}
use Rattle.schema_json_shapes.specs.Walk.{action_id}
use Rattle.schema_compat_shapes.specs.OldParts.{IsOldActionId}
use Rattle.schema_json_shapes.proofs.Ahead.{LeftItems, FoundItems}
use Rattle.schema_compat_shapes.proofs.action_ids.read_action_ids.Given as goal

abbrev pub invariant-loop-item : goal.invariant-loop-item
invariant-loop-item l = record {
  left : LeftItems action_id (codes "memberOf") (items_view (drop l.item-index l.item-items)) (items_view l.item-items);
  found : FoundItems IsOldActionId (items_view (drop l.item-index l.item-items)) (items_view l.item-items) l.parents;
}
