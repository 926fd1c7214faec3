use Rattle.std.proofs.Common.{sym, subst}
use Rattle.std.specs.Prelude.{codes}
use Rattle.serde_json.specs.View.{members_view}
use Rattle.cedar_data.specs.Text.{text_cmp}
use Rattle.schema_json.specs.Orders.{unreserved_cmp}
use Rattle.schema_json_shapes.specs.Walk.{AllMet, namespace, namespace_member}
use Rattle.schema_json_shapes.specs.Shapes.{IsNamespaceIn}
use Rattle.schema_json_shapes.specs.Reads.{IsDemandFault, field_demands}
use Rattle.schema_json_shapes.specs.Walk.{actions, entity_types}
use Rattle.schema_json_shapes.specs.Said.{IsMapOrNone, IsId, IsText}
use Rattle.schema_json_shapes.specs.Shapes.{IsEntityType, IsAction}
use Rattle.schema_json_shapes.proofs.Wholes.{namespace_has_actions, namespace_has_entityTypes}
use Rattle.schema_json_shapes.proofs.Order.{Rises-view}
use Rattle.schema_json_shapes.proofs.Wholes.{namespace_whole, namespace_names, field_refused, fields_met}
use Rattle.schema_json_shapes.proofs.namespaces.read_members.Goals as goal

pub needed-declared_actions-requires : goal.needed-declared_actions-requires
needed-declared_actions-requires c =
    namespace_has_actions c.args.key.now (members_view c.args.members.now.entries) c.in_ok-check_members.ensures.0

pub needed-declared_types-requires : goal.needed-declared_types-requires
needed-declared_types-requires c =
    namespace_has_entityTypes c.args.key.now (members_view c.args.members.now.entries) c.in_ok-check_members.ensures.0

pub returns-in_err-actions : goal.returns-in_err-actions
returns-in_err-actions c =
    let ms = members_view c.args.members.now.entries in
    let own = c.in_ok-check_members.ensures.0 in
    field_refused namespace c.args.key.now namespace_member namespace_names ms
    (namespace_whole c.args.key.now ms (Rises-view c.args.members.now.entries c.len.ensures.ordered) own)
    (IsNamespaceIn ms) 1 c.from_residual-in_err-actions.result c.in_err-actions.field-0.0
    c.from_residual-in_err-actions.ensures.1 own
    (subst (λ o. IsDemandFault (field_demands actions (codes "actions") o) c.in_err-actions.field-0.0)
    (sym c.needed-declared_actions.ensures) c.in_err-actions.ensures)

pub returns-in_err-annotations : goal.returns-in_err-annotations
returns-in_err-annotations c =
    let ms = members_view c.args.members.now.entries in
    let own = c.in_ok-check_members.ensures.0 in
    field_refused namespace c.args.key.now namespace_member namespace_names ms
    (namespace_whole c.args.key.now ms (Rises-view c.args.members.now.entries c.len.ensures.ordered) own)
    (IsNamespaceIn ms) 2 c.from_residual-in_err-annotations.result c.in_err-annotations.field-0.0
    c.from_residual-in_err-annotations.ensures.1 own (subst (λ o. AllMet (field_demands actions (codes "actions") o))
    (sym c.needed-declared_actions.ensures) c.in_ok-actions.ensures.0) c.in_err-annotations.ensures

pub returns-in_err-common_types : goal.returns-in_err-common_types
returns-in_err-common_types c =
    let ms = members_view c.args.members.now.entries in
    let own = c.in_ok-check_members.ensures.0 in
    field_refused namespace c.args.key.now namespace_member namespace_names ms
    (namespace_whole c.args.key.now ms (Rises-view c.args.members.now.entries c.len.ensures.ordered) own)
    (IsNamespaceIn ms) 3 c.from_residual-in_err-common_types.result c.in_err-common_types.field-0.0
    c.from_residual-in_err-common_types.ensures.1 own (subst (λ o. AllMet (field_demands actions (codes "actions") o))
    (sym c.needed-declared_actions.ensures) c.in_ok-actions.ensures.0) c.in_ok-annotations.ensures.0
    c.in_err-common_types.ensures

pub returns-in_err-entity_types : goal.returns-in_err-entity_types
returns-in_err-entity_types c =
    let ms = members_view c.args.members.now.entries in
    let own = c.in_ok-check_members.ensures.0 in
    field_refused namespace c.args.key.now namespace_member namespace_names ms
    (namespace_whole c.args.key.now ms (Rises-view c.args.members.now.entries c.len.ensures.ordered) own)
    (IsNamespaceIn ms) 4 c.from_residual-in_err-entity_types.result c.in_err-entity_types.field-0.0
    c.from_residual-in_err-entity_types.ensures.1 own (subst (λ o. AllMet (field_demands actions (codes "actions") o))
    (sym c.needed-declared_actions.ensures) c.in_ok-actions.ensures.0) c.in_ok-annotations.ensures.0
    c.in_ok-common_types.ensures.0
    (subst (λ o. IsDemandFault (field_demands entity_types (codes "entityTypes") o) c.in_err-entity_types.field-0.0)
    (sym c.needed-declared_types.ensures) c.in_err-entity_types.ensures)

pub returns : goal.returns
returns c =
    let ms = members_view c.args.members.now.entries in
    let own = c.in_ok-check_members.ensures.0 in (
      fields_met namespace c.args.key.now namespace_member namespace_names ms
          (namespace_whole c.args.key.now ms (Rises-view c.args.members.now.entries c.len.ensures.ordered) own) own
          (subst (λ o. AllMet (field_demands actions (codes "actions") o)) (sym c.needed-declared_actions.ensures)
          c.in_ok-actions.ensures.0) c.in_ok-annotations.ensures.0 c.in_ok-common_types.ensures.0
          (subst (λ o. AllMet (field_demands entity_types (codes "entityTypes") o))
          (sym c.needed-declared_types.ensures)
          c.in_ok-entity_types.ensures.0) tt,
      record {
        commons = c.in_ok-common_types.ensures.1;
        entities = subst (λ o. IsMapOrNone unreserved_cmp IsId IsEntityType o c.in_ok-entity_types.entity_types)
            (sym c.needed-declared_types.ensures) c.in_ok-entity_types.ensures.1;
        actions = subst (λ o. IsMapOrNone text_cmp IsText IsAction o c.in_ok-actions.actions)
            (sym c.needed-declared_actions.ensures) c.in_ok-actions.ensures.1;
        annotated = c.in_ok-annotations.ensures.1;
      },
    )
