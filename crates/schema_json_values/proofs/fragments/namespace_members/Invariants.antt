use Rattle.std.proofs.Common.{◌≡◌, drop, map}
use Rattle.serde_json.specs.Data.{no_members}
use Rattle.serde_json.specs.View.{members_view}
use Rattle.schema_json_values.specs.TypeValues.{put_all}
use Rattle.schema_json_values.specs.FragmentValues.{namespace_entry}
use Rattle.schema_json_values.proofs.fragments.namespace_members.Given as goal

abbrev pub invariant-loop-name : goal.invariant-loop-name
invariant-loop-name g l = put_all (map (namespace_entry g.N.NameText.components) (drop l.name-index l.entries))
    (members_view l.members.entries) ≡ put_all (map (namespace_entry g.N.NameText.components) l.entries) no_members
