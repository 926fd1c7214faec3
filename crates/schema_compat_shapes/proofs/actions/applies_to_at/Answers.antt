use Rattle.std.specs.Prelude.{codes}
use Rattle.serde_json.specs.Find.{get_member}
use Rattle.serde_json.specs.View.{view, members_view}
use Rattle.schema_json_shapes.specs.Said.{not_null}
use Rattle.schema_compat_shapes.specs.OldWalk.{old_applies_to_demands}
use Rattle.schema_compat_shapes.specs.OldParts.{IsOldAppliesTo}
use Rattle.schema_compat_shapes.proofs.OldObjects.{field_some}
use Rattle.schema_compat_shapes.proofs.actions.applies_to_at.Goals as goal

pub returns-in_ok-read_applies_to-in-Some : goal.returns-in_ok-read_applies_to-in-Some
returns-in_ok-read_applies_to-in-Some c =
    field_some old_applies_to_demands (codes "appliesTo") IsOldAppliesTo
    (not_null (get_member (codes "appliesTo") (members_view c.args.members.now.entries))) (view c.in-Some.value.now)
    c.in_ok-read_applies_to-in-Some.field-0 c.in-Some.ensures c.in_ok-read_applies_to-in-Some.ensures.0
    c.in_ok-read_applies_to-in-Some.ensures.1
