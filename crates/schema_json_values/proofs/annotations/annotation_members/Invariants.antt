use Rattle.std.proofs.Common.{◌≡◌, drop, map}
use Rattle.serde_json.specs.Data.{no_members}
use Rattle.serde_json.specs.View.{members_view}
use Rattle.schema_json_values.specs.TypeValues.{put_all}
use Rattle.schema_json_values.specs.TypeValues.{annotation_entry}
use Rattle.schema_json_values.proofs.annotations.annotation_members.Given as goal

abbrev pub invariant-loop-key : goal.invariant-loop-key
invariant-loop-key l = put_all (map annotation_entry (drop l.key-index l.entries)) (members_view l.members.entries)
    ≡ put_all (map annotation_entry l.entries) no_members
