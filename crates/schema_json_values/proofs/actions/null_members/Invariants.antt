use Rattle.std.proofs.Common.{◌≡◌, drop, map}
use Rattle.serde_json.specs.Data.{no_members}
use Rattle.serde_json.specs.View.{members_view}
use Rattle.schema_json_values.specs.TypeValues.{put_all}
use Rattle.schema_json_values.specs.FragmentValues.{attribute_name_entry}
use Rattle.schema_json_values.proofs.actions.null_members.Given as goal

abbrev pub invariant-loop-name : goal.invariant-loop-name
invariant-loop-name l = put_all (map attribute_name_entry (drop l.name-index l.names))
    (members_view l.members.entries) ≡ put_all (map attribute_name_entry l.names) no_members
