use Rattle.std.proofs.Common.{◌≡◌}
use Rattle.serde_json.specs.View.{members_view}
use Rattle.schema_compat_shapes.specs.OldTypes.{are_all_attributes}
use Rattle.schema_compat_shapes.proofs.readable.are_all_attributes.Given as goal

abbrev pub invariant-loop-value : goal.invariant-loop-value
invariant-loop-value l =
    are_all_attributes (members_view l.value-iterator) ≡ are_all_attributes (members_view l.members.entries)
