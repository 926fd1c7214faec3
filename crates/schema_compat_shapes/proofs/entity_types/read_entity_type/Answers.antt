use Rattle.serde_json.specs.View.{view, members_view}
use Rattle.schema_compat_shapes.specs.OldWalk.{old_entity_type_members}
use Rattle.schema_compat_shapes.specs.OldParts.{IsOldEntityTypeIn}
use Rattle.schema_compat_shapes.proofs.OldObjects.{not_an_object, reads_members}
use Rattle.schema_compat_shapes.proofs.entity_types.read_entity_type.Goals as goal

pub returns-in-Some : goal.returns-in-Some
returns-in-Some c = reads_members c.read_members.result old_entity_type_members c.args.label.now (view c.args.value.now)
    (members_view c.in-Some.members.now.entries) IsOldEntityTypeIn c.in-Some.ensures c.read_members.ensures

pub returns-in-None : goal.returns-in-None
returns-in-None c = not_an_object old_entity_type_members c.args.label.now (view c.args.value.now) c.wrong_type.result
    c.in-None.ensures
    c.wrong_type.ensures
