use Rattle.std.proofs.Common.{refl}
use Rattle.serde_json.specs.Find.{get_member}
use Rattle.serde_json.specs.View.{view, members_view}
use Rattle.schema_json_shapes.specs.Walk.{names}
use Rattle.schema_json_shapes.specs.Said.{IsList, IsNamed}
use Rattle.schema_json_shapes.specs.Reads.{field_demands}
use Rattle.schema_json_shapes.specs.Walk.{or_null}
use Rattle.schema_json_shapes.proofs.Demands.{refused}
use Rattle.schema_json_shapes.proofs.Objects.{given_some, given_none, given_fails}
use Rattle.schema_compat_shapes.proofs.actions.names_at.Goals as goal

pub returns-in_ok-read_names-in-Some : goal.returns-in_ok-read_names-in-Some
returns-in_ok-read_names-in-Some c =
    let o = get_member c.args.name.now (members_view c.args.members.now.entries) in
    given_some names c.args.name.now (IsList IsNamed) o (view c.in-Some.value.now)
    c.in_ok-read_names-in-Some.field-0 refl c.in-Some.ensures c.in_ok-read_names-in-Some.ensures.0
    c.in_ok-read_names-in-Some.ensures.1

pub returns-in_err-read_names-in-Some : goal.returns-in_err-read_names-in-Some
returns-in_err-read_names-in-Some c =
    let o = get_member c.args.name.now (members_view c.args.members.now.entries) in
    let e = c.in_err-read_names-in-Some.field-0.0 in
    refused c.from_residual.result e (field_demands (or_null names) c.args.name.now o) _
    c.from_residual.ensures.1
    (given_fails names c.args.name.now o (view c.in-Some.value.now) e refl c.in-Some.ensures
    c.in_err-read_names-in-Some.ensures)

pub returns-in-None : goal.returns-in-None
returns-in-None c =
    let o = get_member c.args.name.now (members_view c.args.members.now.entries) in
    given_none names c.args.name.now (IsList IsNamed) o refl c.in-None.ensures
