use Rattle.std.proofs.Common.{subst, List, [], ◌∷◌}
use Rattle.std.specs.Prelude.{codes}
use Rattle.serde_json.specs.Find.{get_member}
use Rattle.serde_json.specs.View.{members_view}
use Rattle.serde_json.specs.Data.{Members}
use Rattle.schema_json_shapes.specs.Walk.{AllMet, fits_table, Demand}
use Rattle.schema_json_shapes.specs.Reads.{IsDemandFault, field_demands}
use Rattle.schema_json_shapes.proofs.Demands.{row_refused, rows_met}
use Rattle.schema_json_shapes.specs.Walk.{names, or_null}
use Rattle.schema_compat_shapes.specs.OldWalk.{at_field, old_type_demands, old_applies_to_fields}
use Rattle.schema_compat_shapes.specs.OldParts.{IsOldAppliesToIn}
use Rattle.schema_compat_shapes.proofs.actions.read_applies_to_members.Goals as goal

abbrev field_rows : Members → List (List Demand)
field_rows ms =
    at_field old_type_demands (codes "context") (get_member (codes "context") ms)
    ∷ field_demands (or_null names) (codes "principalTypes") (get_member (codes "principalTypes") ms)
    ∷ field_demands (or_null names) (codes "resourceTypes") (get_member (codes "resourceTypes") ms) ∷ []

pub returns-in_err-check_fields : goal.returns-in_err-check_fields
returns-in_err-check_fields c =
    let ms = members_view c.args.members.now.entries in
    row_refused (IsOldAppliesToIn ms) (fits_table old_applies_to_fields ms) (field_rows ms) 0 c.from_residual.result
    c.in_err-check_fields.field-0.0 c.from_residual.ensures.1
    (subst (λ fs. IsDemandFault (fits_table fs ms) c.in_err-check_fields.field-0.0) c.applies_to_fields.ensures
    c.in_err-check_fields.ensures)

pub returns-in_err-context : goal.returns-in_err-context
returns-in_err-context c =
    let ms = members_view c.args.members.now.entries in
    let own = subst (λ fs. AllMet (fits_table fs ms)) c.applies_to_fields.ensures c.in_ok-check_fields.ensures.0 in
    row_refused (IsOldAppliesToIn ms) (fits_table old_applies_to_fields ms) (field_rows ms) 1
    c.from_residual-in_err-context.result c.in_err-context.field-0.0 c.from_residual-in_err-context.ensures.1 own
    c.in_err-context.ensures

pub returns-in_err-principal_types : goal.returns-in_err-principal_types
returns-in_err-principal_types c =
    let ms = members_view c.args.members.now.entries in
    let own = subst (λ fs. AllMet (fits_table fs ms)) c.applies_to_fields.ensures c.in_ok-check_fields.ensures.0 in
    row_refused (IsOldAppliesToIn ms) (fits_table old_applies_to_fields ms) (field_rows ms) 2
    c.from_residual-in_err-principal_types.result c.in_err-principal_types.field-0.0
    c.from_residual-in_err-principal_types.ensures.1 own c.in_ok-context.ensures.0 c.in_err-principal_types.ensures

pub returns-in_err-resource_types : goal.returns-in_err-resource_types
returns-in_err-resource_types c =
    let ms = members_view c.args.members.now.entries in
    let own = subst (λ fs. AllMet (fits_table fs ms)) c.applies_to_fields.ensures c.in_ok-check_fields.ensures.0 in
    row_refused (IsOldAppliesToIn ms) (fits_table old_applies_to_fields ms) (field_rows ms) 3
    c.from_residual-in_err-resource_types.result c.in_err-resource_types.field-0.0
    c.from_residual-in_err-resource_types.ensures.1 own c.in_ok-context.ensures.0 c.in_ok-principal_types.ensures.0
    c.in_err-resource_types.ensures

pub returns : goal.returns
returns c =
    let ms = members_view c.args.members.now.entries in
    let own = subst (λ fs. AllMet (fits_table fs ms)) c.applies_to_fields.ensures c.in_ok-check_fields.ensures.0 in (
      rows_met (fits_table old_applies_to_fields ms) (field_rows ms) _ (λ h. h) own c.in_ok-context.ensures.0
          c.in_ok-principal_types.ensures.0 c.in_ok-resource_types.ensures.0,
      record {
        resources = c.in_ok-resource_types.ensures.1;
        principals = c.in_ok-principal_types.ensures.1;
        in_context = c.in_ok-context.ensures.1;
      },
    )
