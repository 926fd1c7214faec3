use Rattle.std.proofs.Common.{[], refl}
use Rattle.serde_json.specs.View.{members_view}
use Rattle.schema_json_shapes.specs.Walk.{entity_type, entity_type_member}
use Rattle.schema_json_shapes.specs.Shapes.{IsEntityTypeIn}
use Rattle.schema_json_shapes.proofs.EntityKinds.{kind_says}
use Rattle.schema_json_shapes.proofs.Order.{Rises-view}
use Rattle.schema_json_shapes.proofs.Wholes.{entity_type_whole, entity_type_names, field_refused, fields_met}
use Rattle.schema_json_shapes.proofs.entity_types.read_members.Goals as goal

pub choices_at-requires : goal.choices_at-requires
choices_at-requires c = c.in_ok-check_members.ensures.0.1.1.1.1.0

pub returns-in_err-annotations : goal.returns-in_err-annotations
returns-in_err-annotations c =
    let ms = members_view c.args.members.now.entries in
    let own = c.in_ok-check_members.ensures.0 in
    field_refused entity_type [] entity_type_member entity_type_names ms
    (entity_type_whole [] ms (Rises-view c.args.members.now.entries c.len.ensures.ordered) own) (IsEntityTypeIn ms) 1
    c.from_residual-in_err-annotations.result c.in_err-annotations.field-0.0
    c.from_residual-in_err-annotations.ensures.1 own c.in_err-annotations.ensures

pub returns-in_err-choices : goal.returns-in_err-choices
returns-in_err-choices c =
    let ms = members_view c.args.members.now.entries in
    let own = c.in_ok-check_members.ensures.0 in
    field_refused entity_type [] entity_type_member entity_type_names ms
    (entity_type_whole [] ms (Rises-view c.args.members.now.entries c.len.ensures.ordered) own) (IsEntityTypeIn ms) 2
    c.from_residual-in_err-choices.result c.in_err-choices.field-0.0 c.from_residual-in_err-choices.ensures.1 own
    c.in_ok-annotations.ensures.0 c.in_err-choices.ensures

pub returns-in_err-external : goal.returns-in_err-external
returns-in_err-external c =
    let ms = members_view c.args.members.now.entries in
    let own = c.in_ok-check_members.ensures.0 in
    field_refused entity_type [] entity_type_member entity_type_names ms
    (entity_type_whole [] ms (Rises-view c.args.members.now.entries c.len.ensures.ordered) own) (IsEntityTypeIn ms) 3
    c.from_residual-in_err-external.result c.in_err-external.field-0.0 c.from_residual-in_err-external.ensures.1 own
    c.in_ok-annotations.ensures.0 c.in_ok-choices.ensures.0 c.in_err-external.ensures

pub returns-in_err-member_of_types : goal.returns-in_err-member_of_types
returns-in_err-member_of_types c =
    let ms = members_view c.args.members.now.entries in
    let own = c.in_ok-check_members.ensures.0 in
    field_refused entity_type [] entity_type_member entity_type_names ms
    (entity_type_whole [] ms (Rises-view c.args.members.now.entries c.len.ensures.ordered) own) (IsEntityTypeIn ms) 4
    c.from_residual-in_err-member_of_types.result c.in_err-member_of_types.field-0.0
    c.from_residual-in_err-member_of_types.ensures.1 own c.in_ok-annotations.ensures.0 c.in_ok-choices.ensures.0
    c.in_ok-external.ensures.0 c.in_err-member_of_types.ensures

pub returns-in_err-shape : goal.returns-in_err-shape
returns-in_err-shape c =
    let ms = members_view c.args.members.now.entries in
    let own = c.in_ok-check_members.ensures.0 in
    field_refused entity_type [] entity_type_member entity_type_names ms
    (entity_type_whole [] ms (Rises-view c.args.members.now.entries c.len.ensures.ordered) own) (IsEntityTypeIn ms) 5
    c.from_residual-in_err-shape.result c.in_err-shape.field-0.0 c.from_residual-in_err-shape.ensures.1 own
    c.in_ok-annotations.ensures.0 c.in_ok-choices.ensures.0 c.in_ok-external.ensures.0
    c.in_ok-member_of_types.ensures.0 c.in_err-shape.ensures

pub returns-in_err-tags : goal.returns-in_err-tags
returns-in_err-tags c =
    let ms = members_view c.args.members.now.entries in
    let own = c.in_ok-check_members.ensures.0 in
    field_refused entity_type [] entity_type_member entity_type_names ms
    (entity_type_whole [] ms (Rises-view c.args.members.now.entries c.len.ensures.ordered) own) (IsEntityTypeIn ms) 6
    c.from_residual-in_err-tags.result c.in_err-tags.field-0.0 c.from_residual-in_err-tags.ensures.1 own
    c.in_ok-annotations.ensures.0 c.in_ok-choices.ensures.0 c.in_ok-external.ensures.0
    c.in_ok-member_of_types.ensures.0 c.in_ok-shape.ensures.0 c.in_err-tags.ensures

pub returns : goal.returns
returns c =
    let ms = members_view c.args.members.now.entries in
    let own = c.in_ok-check_members.ensures.0 in (
      fields_met entity_type [] entity_type_member entity_type_names ms
          (entity_type_whole [] ms (Rises-view c.args.members.now.entries c.len.ensures.ordered) own) own
          c.in_ok-annotations.ensures.0 c.in_ok-choices.ensures.0 c.in_ok-external.ensures.0
          c.in_ok-member_of_types.ensures.0 c.in_ok-shape.ensures.0 c.in_ok-tags.ensures.0 tt,
      record {
        is_kind = kind_says ms c.in_ok-choices.choices c.in_ok-member_of_types.member_of_types c.in_ok-shape.shape
            c.in_ok-tags.tags c.in_ok-kind.kind c.in_ok-kind.ensures c.in_ok-choices.ensures.1
            c.in_ok-member_of_types.ensures.1 c.in_ok-shape.ensures.1 c.in_ok-tags.ensures.1;
        marked = c.in_ok-external.ensures.1;
        annotated = c.in_ok-annotations.ensures.1;
        placeless = refl;
      },
    )
