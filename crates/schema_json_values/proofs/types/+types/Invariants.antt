use Rattle.std.proofs.Common.{◌≡◌, ◌+◌, ◌*◌, drop, map}
use Rattle.std.specs.Map.{values_of}
use Rattle.serde_json.specs.Data.{no_members}
use Rattle.serde_json.specs.View.{members_view}
use denote.Param.Weighed.{most}
use Rattle.schema_json.specs.declared.types.TypeOfAttribute.{size-TypeOfAttribute}
use Rattle.schema_json_values.specs.TypeValues.{put_all, attribute_entry}
use Rattle.schema_json_values.proofs.types.+types.Given as goal

abbrev pub decreases-type_members : goal.decreases-type_members
decreases-type_members g l = 2 * goal.size-type_members g l

abbrev pub decreases-variant_members : goal.decreases-variant_members
decreases-variant_members g l = 2 * goal.size-variant_members g l

abbrev pub decreases-attribute_entries : goal.decreases-attribute_entries
decreases-attribute_entries g l = 2 * most (size-TypeOfAttribute g.row.N.Denot) (values_of l.entries.now) + 1

abbrev pub invariant-attribute_entries-loop-name : goal.invariant-attribute_entries-loop-name
invariant-attribute_entries-loop-name g l =
    put_all (map (attribute_entry g.N.NameText.components) (drop l.name-index l.entries))
    (members_view l.members.entries) ≡ put_all (map (attribute_entry g.N.NameText.components) l.entries) no_members
