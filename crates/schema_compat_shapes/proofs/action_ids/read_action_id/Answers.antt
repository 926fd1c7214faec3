use Rattle.std.proofs.Common.{refl}
use Rattle.std.specs.Prelude.{codes}
use Rattle.serde_json.specs.View.{view, members_view}
use Rattle.schema_json_shapes.specs.Walk.{action_id}
use Rattle.schema_compat_shapes.specs.OldParts.{IsOldActionId}
use Rattle.schema_json_shapes.proofs.Objects.{no_object, reads_object}
use Rattle.schema_compat_shapes.proofs.action_ids.read_action_id.Goals as goal

pub returns-in-Some : goal.returns-in-Some
returns-in-Some c = reads_object c.read_id_members.result action_id (codes "memberOf") (view c.args.value.now)
    (members_view c.in-Some.members.now.entries) IsOldActionId c.in-Some.ensures c.read_id_members.ensures

pub returns-in-None : goal.returns-in-None
returns-in-None c = no_object action_id (codes "memberOf")
    (record { on_null = refl; on_flag = refl; on_number = refl; on_string = λ s. refl; on_array = refl })
    (view c.args.value.now) c.wrong_type.result c.in-None.ensures c.wrong_type.ensures
