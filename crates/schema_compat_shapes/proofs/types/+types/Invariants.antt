use Rattle.std.proofs.Common.{◌≡◌, ◌+◌, ◌*◌, List, [], ◌++◌, true}
use Rattle.serde_json.specs.Data.{depth, members_depth}
use Rattle.serde_json.specs.View.{view, members_view}
use Rattle.serde_json.proofs.Views.{Entry}
use Rattle.schema_json_shapes.specs.Said.{IsText}
use Rattle.schema_compat_shapes.specs.OldTypes.{are_all_attributes}
use Rattle.schema_compat_shapes.specs.OldParts.{IsOldAttribute}
use Rattle.schema_json_shapes.proofs.EntriesAhead.{EntriesAhead}
use Rattle.schema_compat_shapes.proofs.types.+types.Given as goal

abbrev pub decreases-read_type : goal.decreases-read_type
decreases-read_type l = 8 * members_depth (members_view l.members.now.entries) + 4

abbrev pub decreases-read_variant : goal.decreases-read_variant
decreases-read_variant l = 8 * members_depth (members_view l.members.now.entries) + 3

abbrev pub decreases-read_set : goal.decreases-read_set
decreases-read_set l = 8 * members_depth (members_view l.members.now.entries) + 2

abbrev pub decreases-read_record : goal.decreases-read_record
decreases-read_record l = 8 * members_depth (members_view l.members.now.entries) + 2

abbrev pub decreases-read_attributes : goal.decreases-read_attributes
decreases-read_attributes l = 8 * members_depth (members_view l.members.now.entries) + 7

abbrev pub decreases-read_attribute : goal.decreases-read_attribute
decreases-read_attribute l = 8 * depth (view l.value.now) + 1

abbrev pub invariant-read_attributes-loop-key : goal.invariant-read_attributes-loop-key
invariant-read_attributes-loop-key l = record {
  done : (before : List Entry) × (l.members.entries ≡ before ++ l.key-iterator);
  left : are_all_attributes (members_view l.key-iterator) ≡ true;
  ahead : EntriesAhead (λ k d. []) IsText IsOldAttribute (members_view l.key-iterator)
      (members_view l.members.entries) l.entries.items;
}
