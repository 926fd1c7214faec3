use Rattle.std.proofs.Common.{drop}
use Rattle.std.specs.Prelude.{codes}
use Rattle.serde_json.specs.View.{items_view}
use Rattle.schema_json_shapes.specs.Walk.{text}
use Rattle.schema_json_shapes.specs.Said.{IsChoice}
use Rattle.schema_json_shapes.proofs.Ahead.{LeftItems, FoundItems}
use Rattle.schema_json_shapes.proofs.entity_types.read_choices.Given as goal

abbrev pub invariant-loop-item : goal.invariant-loop-item
invariant-loop-item l = record {
  left : LeftItems text (codes "enum") (items_view (drop l.item-index l.item-items)) (items_view l.item-items);
  found : FoundItems IsChoice (items_view (drop l.item-index l.item-items)) (items_view l.item-items) l.choices.items;
}
