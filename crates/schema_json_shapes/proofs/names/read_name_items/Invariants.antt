use Rattle.std.proofs.Common.{drop}
use Rattle.serde_json.specs.View.{items_view}
use Rattle.schema_json_shapes.specs.Walk.{named}
use Rattle.schema_json_shapes.specs.Said.{IsNamed}
use Rattle.schema_json_shapes.specs.declared.name_role.NameRole.TheVariants as role
use Rattle.schema_json_shapes.proofs.Ahead.{LeftItems, FoundItems}
use Rattle.schema_json_shapes.proofs.names.read_name_items.Given as goal

abbrev pub invariant-loop-item : goal.invariant-loop-item
invariant-loop-item l = record {
  left : LeftItems (named role.Name) l.label (items_view (drop l.item-index l.item-items)) (items_view l.item-items);
  found : FoundItems IsNamed (items_view (drop l.item-index l.item-items)) (items_view l.item-items) l.found;
}
