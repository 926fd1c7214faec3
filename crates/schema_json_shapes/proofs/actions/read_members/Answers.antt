use Rattle.std.proofs.Common.{[], refl}
use Rattle.serde_json.specs.View.{members_view}
use Rattle.schema_json_shapes.specs.Walk.{action, action_member}
use Rattle.schema_json_shapes.specs.Shapes.{IsActionIn}
use Rattle.schema_json_shapes.proofs.Order.{Rises-view}
use Rattle.schema_json_shapes.proofs.Wholes.{action_whole, action_names, field_refused, fields_met}
use Rattle.schema_json_shapes.proofs.actions.read_members.Goals as goal

pub returns-in_err-annotations : goal.returns-in_err-annotations
returns-in_err-annotations c =
    let ms = members_view c.args.members.now.entries in
    let own = c.in_ok-check_members.ensures.0 in
    field_refused action [] action_member action_names ms
    (action_whole [] ms (Rises-view c.args.members.now.entries c.len.ensures.ordered) own) (IsActionIn ms) 1
    c.from_residual-in_err-annotations.result c.in_err-annotations.field-0.0
    c.from_residual-in_err-annotations.ensures.1 own c.in_err-annotations.ensures

pub returns-in_err-applies_to : goal.returns-in_err-applies_to
returns-in_err-applies_to c =
    let ms = members_view c.args.members.now.entries in
    let own = c.in_ok-check_members.ensures.0 in
    field_refused action [] action_member action_names ms
    (action_whole [] ms (Rises-view c.args.members.now.entries c.len.ensures.ordered) own) (IsActionIn ms) 2
    c.from_residual-in_err-applies_to.result c.in_err-applies_to.field-0.0 c.from_residual-in_err-applies_to.ensures.1
    own c.in_ok-annotations.ensures.0 c.in_err-applies_to.ensures

pub returns-in_err-attributes : goal.returns-in_err-attributes
returns-in_err-attributes c =
    let ms = members_view c.args.members.now.entries in
    let own = c.in_ok-check_members.ensures.0 in
    field_refused action [] action_member action_names ms
    (action_whole [] ms (Rises-view c.args.members.now.entries c.len.ensures.ordered) own) (IsActionIn ms) 3
    c.from_residual-in_err-attributes.result c.in_err-attributes.field-0.0 c.from_residual-in_err-attributes.ensures.1
    own c.in_ok-annotations.ensures.0 c.in_ok-applies_to.ensures.0 c.in_err-attributes.ensures

pub returns-in_err-external : goal.returns-in_err-external
returns-in_err-external c =
    let ms = members_view c.args.members.now.entries in
    let own = c.in_ok-check_members.ensures.0 in
    field_refused action [] action_member action_names ms
    (action_whole [] ms (Rises-view c.args.members.now.entries c.len.ensures.ordered) own) (IsActionIn ms) 4
    c.from_residual-in_err-external.result c.in_err-external.field-0.0 c.from_residual-in_err-external.ensures.1 own
    c.in_ok-annotations.ensures.0 c.in_ok-applies_to.ensures.0 c.in_ok-attributes.ensures.0 c.in_err-external.ensures

pub returns-in_err-member_of : goal.returns-in_err-member_of
returns-in_err-member_of c =
    let ms = members_view c.args.members.now.entries in
    let own = c.in_ok-check_members.ensures.0 in
    field_refused action [] action_member action_names ms
    (action_whole [] ms (Rises-view c.args.members.now.entries c.len.ensures.ordered) own) (IsActionIn ms) 5
    c.from_residual-in_err-member_of.result c.in_err-member_of.field-0.0 c.from_residual-in_err-member_of.ensures.1 own
    c.in_ok-annotations.ensures.0 c.in_ok-applies_to.ensures.0 c.in_ok-attributes.ensures.0 c.in_ok-external.ensures.0
    c.in_err-member_of.ensures

pub returns : goal.returns
returns c =
    let ms = members_view c.args.members.now.entries in
    let own = c.in_ok-check_members.ensures.0 in (
      fields_met action [] action_member action_names ms
          (action_whole [] ms (Rises-view c.args.members.now.entries c.len.ensures.ordered) own) own
          c.in_ok-annotations.ensures.0 c.in_ok-applies_to.ensures.0 c.in_ok-attributes.ensures.0
          c.in_ok-external.ensures.0 c.in_ok-member_of.ensures.0 tt,
      record {
        attributed = c.in_ok-attributes.ensures.1;
        applied = c.in_ok-applies_to.ensures.1;
        parents = c.in_ok-member_of.ensures.1;
        marked = c.in_ok-external.ensures.1;
        annotated = c.in_ok-annotations.ensures.1;
        placeless = refl;
      },
    )
