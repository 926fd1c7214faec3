use Rattle.std.proofs.Common.{refl}
use Rattle.std.specs.Prelude.{codes}
use Rattle.serde_json.specs.Find.{get_member}
use Rattle.serde_json.specs.View.{view, members_view}
use Rattle.schema_json_shapes.specs.Walk.{action_ids}
use Rattle.schema_compat_shapes.specs.OldParts.{IsOldActionId}
use Rattle.schema_json_shapes.specs.Said.{IsList}
use Rattle.schema_json_shapes.specs.Reads.{field_demands}
use Rattle.schema_json_shapes.specs.Walk.{or_null}
use Rattle.schema_json_shapes.proofs.Demands.{refused}
use Rattle.schema_json_shapes.proofs.Objects.{given_some, given_none, given_fails}
use Rattle.schema_compat_shapes.proofs.action_ids.parents_at.Goals as goal

pub returns-in_ok-read_parents-in-Some : goal.returns-in_ok-read_parents-in-Some
returns-in_ok-read_parents-in-Some c =
    let o = get_member (codes "memberOf") (members_view c.args.members.now.entries) in
    given_some (action_ids) (codes "memberOf") (IsList IsOldActionId) o (view c.in-Some.value.now)
    c.in_ok-read_parents-in-Some.field-0 refl c.in-Some.ensures c.in_ok-read_parents-in-Some.ensures.0
    c.in_ok-read_parents-in-Some.ensures.1

pub returns-in_err-read_parents-in-Some : goal.returns-in_err-read_parents-in-Some
returns-in_err-read_parents-in-Some c =
    let o = get_member (codes "memberOf") (members_view c.args.members.now.entries) in
    let e = c.in_err-read_parents-in-Some.field-0.0 in
    refused c.from_residual.result e (field_demands (or_null (action_ids)) (codes "memberOf") o) _
    c.from_residual.ensures.1
    (given_fails (action_ids) (codes "memberOf") o (view c.in-Some.value.now) e refl c.in-Some.ensures
    c.in_err-read_parents-in-Some.ensures)

pub returns-in-None : goal.returns-in-None
returns-in-None c =
    let o = get_member (codes "memberOf") (members_view c.args.members.now.entries) in
    given_none (action_ids) (codes "memberOf") (IsList IsOldActionId) o refl c.in-None.ensures
