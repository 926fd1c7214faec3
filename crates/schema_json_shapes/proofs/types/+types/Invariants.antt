use Rattle.std.proofs.Common.{◌≡◌, ◌+◌, ◌*◌, List, ◌++◌}
use Rattle.serde_json.specs.Data.{depth, members_depth}
use Rattle.serde_json.specs.View.{view, members_view}
use Rattle.serde_json.proofs.Views.{Entry}
use Rattle.schema_json_shapes.specs.declared.words.TypeSite.TheVariants as site
use Rattle.schema_json_shapes.specs.Walk.{typed, attributes, key_demands}
use Rattle.schema_json_shapes.proofs.Ahead.{Left}
use Rattle.schema_json_shapes.proofs.Attributes.{FoundAttributes}
use Rattle.schema_json_shapes.proofs.types.+types.Given as goal

abbrev pub decreases-read_typed : goal.decreases-read_typed
decreases-read_typed l = 6 * depth (view l.value.now) + 2

abbrev pub decreases-read_object : goal.decreases-read_object
decreases-read_object l = 6 * members_depth (members_view l.members.now.entries) + 7

abbrev pub decreases-read_shape : goal.decreases-read_shape
decreases-read_shape l = 6 * members_depth (members_view l.members.now.entries) + 6

abbrev pub decreases-read_set : goal.decreases-read_set
decreases-read_set l = 6 * members_depth (members_view l.members.now.entries) + 5

abbrev pub decreases-read_record : goal.decreases-read_record
decreases-read_record l = 6 * members_depth (members_view l.members.now.entries) + 5

abbrev pub decreases-read_attributes : goal.decreases-read_attributes
decreases-read_attributes l = 6 * depth (view l.value.now) + 3

abbrev pub decreases-read_attribute_entries : goal.decreases-read_attribute_entries
decreases-read_attribute_entries l = 6 * members_depth (members_view l.members.now.entries) + 8

abbrev pub invariant-read_attribute_entries-loop-key : goal.invariant-read_attribute_entries-loop-key
invariant-read_attribute_entries-loop-key l = record {
  done : (before : List Entry) × (l.members.entries ≡ before ++ l.key-iterator);
  left : Left (key_demands attributes) (λ k. typed site.Attribute) (members_view l.key-iterator)
      (members_view l.members.entries);
  found : FoundAttributes (members_view l.key-iterator) (members_view l.members.entries) l.entries.items;
}
