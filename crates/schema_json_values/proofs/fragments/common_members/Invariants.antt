use Rattle.std.proofs.Common.{◌≡◌, drop, map}
use Rattle.serde_json.specs.Data.{no_members}
use Rattle.serde_json.specs.View.{members_view}
use Rattle.schema_json_values.specs.TypeValues.{put_all}
use Rattle.schema_json_values.specs.FragmentValues.{common_entry}
use Rattle.schema_json_values.proofs.fragments.common_members.Given as goal

abbrev pub invariant-loop-id : goal.invariant-loop-id
invariant-loop-id g l = put_all (map (common_entry g.N.NameText.components) (drop l.id-index l.entries))
    (members_view l.members.entries) ≡ put_all (map (common_entry g.N.NameText.components) l.entries) no_members
