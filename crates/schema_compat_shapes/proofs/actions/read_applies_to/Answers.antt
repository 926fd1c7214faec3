use Rattle.std.specs.Prelude.{codes}
use Rattle.serde_json.specs.View.{view, members_view}
use Rattle.schema_compat_shapes.specs.OldWalk.{old_applies_to_members}
use Rattle.schema_compat_shapes.specs.OldParts.{IsOldAppliesToIn}
use Rattle.schema_compat_shapes.proofs.OldObjects.{not_an_object, reads_members}
use Rattle.schema_compat_shapes.proofs.actions.read_applies_to.Goals as goal

pub returns-in-Some : goal.returns-in-Some
returns-in-Some c = reads_members c.read_applies_to_members.result old_applies_to_members (codes "appliesTo")
    (view c.args.value.now)
    (members_view c.in-Some.members.now.entries) IsOldAppliesToIn c.in-Some.ensures c.read_applies_to_members.ensures

pub returns-in-None : goal.returns-in-None
returns-in-None c = not_an_object old_applies_to_members (codes "appliesTo") (view c.args.value.now)
    c.wrong_type.result c.in-None.ensures
    c.wrong_type.ensures
