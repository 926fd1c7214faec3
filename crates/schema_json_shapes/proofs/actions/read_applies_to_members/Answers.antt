use Rattle.std.proofs.Common.{sym, subst}
use Rattle.std.specs.Prelude.{codes}
use Rattle.serde_json.specs.View.{view, members_view}
use Rattle.schema_json_shapes.specs.Walk.{AllMet, applies_to, applies_to_member}
use Rattle.schema_json_shapes.specs.Shapes.{IsAppliesToIn}
use Rattle.schema_json_shapes.specs.Reads.{IsDemandFault, field_demands}
use Rattle.schema_json_shapes.specs.Walk.{names, fits_table}
use Rattle.schema_json_shapes.proofs.Wholes.{applies_to_has_principalTypes, applies_to_has_resourceTypes}
use Rattle.schema_json_shapes.proofs.Order.{Rises-view}
use Rattle.schema_json_shapes.proofs.Wholes.{applies_to_whole, applies_to_names, field_refused, fields_met}
use Rattle.schema_json_shapes.proofs.actions.read_applies_to_members.Goals as goal

pub needed-principals-requires : goal.needed-principals-requires
needed-principals-requires c =
    applies_to_has_principalTypes (codes "appliesTo") (members_view c.args.members.now.entries)
    (subst (λ fs. AllMet (fits_table fs (members_view c.args.members.now.entries))) c.applies_to_fields.ensures
    c.in_ok-check_fields.ensures.0)

pub needed-resources-requires : goal.needed-resources-requires
needed-resources-requires c = applies_to_has_resourceTypes (codes "appliesTo")
    (members_view c.args.members.now.entries)
    (subst (λ fs. AllMet (fits_table fs (members_view c.args.members.now.entries))) c.applies_to_fields.ensures
    c.in_ok-check_fields.ensures.0)

pub returns-in_err-context : goal.returns-in_err-context
returns-in_err-context c =
    let ms = members_view c.args.members.now.entries in
    let own = subst (λ fs. AllMet (fits_table fs ms)) c.applies_to_fields.ensures c.in_ok-check_fields.ensures.0 in
    field_refused applies_to (codes "appliesTo") applies_to_member applies_to_names ms
    (applies_to_whole (codes "appliesTo") ms (Rises-view c.args.members.now.entries c.len.ensures.ordered) own)
    (IsAppliesToIn ms) 1 c.from_residual-in_err-context.result c.in_err-context.field-0.0
    c.from_residual-in_err-context.ensures.1 own c.in_err-context.ensures

pub returns-in_err-principal_types : goal.returns-in_err-principal_types
returns-in_err-principal_types c =
    let ms = members_view c.args.members.now.entries in
    let own = subst (λ fs. AllMet (fits_table fs ms)) c.applies_to_fields.ensures c.in_ok-check_fields.ensures.0 in
    field_refused applies_to (codes "appliesTo") applies_to_member applies_to_names ms
    (applies_to_whole (codes "appliesTo") ms (Rises-view c.args.members.now.entries c.len.ensures.ordered) own)
    (IsAppliesToIn ms) 2 c.from_residual-in_err-principal_types.result c.in_err-principal_types.field-0.0
    c.from_residual-in_err-principal_types.ensures.1 own c.in_ok-context.ensures.0
    (subst (λ o. IsDemandFault (field_demands names (codes "principalTypes") o) c.in_err-principal_types.field-0.0)
    (sym c.needed-principals.ensures) c.in_err-principal_types.ensures)

pub returns-in_err-resource_types : goal.returns-in_err-resource_types
returns-in_err-resource_types c =
    let ms = members_view c.args.members.now.entries in
    let own = subst (λ fs. AllMet (fits_table fs ms)) c.applies_to_fields.ensures c.in_ok-check_fields.ensures.0 in
    field_refused applies_to (codes "appliesTo") applies_to_member applies_to_names ms
    (applies_to_whole (codes "appliesTo") ms (Rises-view c.args.members.now.entries c.len.ensures.ordered) own)
    (IsAppliesToIn ms) 3 c.from_residual-in_err-resource_types.result c.in_err-resource_types.field-0.0
    c.from_residual-in_err-resource_types.ensures.1 own c.in_ok-context.ensures.0
    (subst (λ o. AllMet (field_demands names (codes "principalTypes") o)) (sym c.needed-principals.ensures)
    c.in_ok-principal_types.ensures.0)
    (subst (λ o. IsDemandFault (field_demands names (codes "resourceTypes") o) c.in_err-resource_types.field-0.0)
    (sym c.needed-resources.ensures) c.in_err-resource_types.ensures)

pub returns : goal.returns
returns c =
    let ms = members_view c.args.members.now.entries in
    let own = subst (λ fs. AllMet (fits_table fs ms)) c.applies_to_fields.ensures c.in_ok-check_fields.ensures.0 in (
      fields_met applies_to (codes "appliesTo") applies_to_member applies_to_names ms
          (applies_to_whole (codes "appliesTo") ms (Rises-view c.args.members.now.entries c.len.ensures.ordered) own)
          own
          c.in_ok-context.ensures.0 (subst (λ o. AllMet (field_demands names (codes "principalTypes") o))
          (sym c.needed-principals.ensures) c.in_ok-principal_types.ensures.0)
          (subst (λ o. AllMet (field_demands names (codes "resourceTypes") o)) (sym c.needed-resources.ensures)
          c.in_ok-resource_types.ensures.0) tt,
      record {
        resources = (view c.needed-resources.result.now, c.needed-resources.ensures, c.in_ok-resource_types.ensures.1);
        principals = (
          view c.needed-principals.result.now,
          c.needed-principals.ensures,
          c.in_ok-principal_types.ensures.1,
        );
        in_context = c.in_ok-context.ensures.1;
      },
    )
