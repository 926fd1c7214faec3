use Rattle.std.proofs.Common.{subst, List, [], ◌∷◌}
use Rattle.std.specs.Prelude.{codes}
use Rattle.serde_json.specs.Find.{get_member}
use Rattle.serde_json.specs.View.{members_view}
use Rattle.serde_json.specs.Data.{Members}
use Rattle.schema_json_shapes.specs.Walk.{AllMet, fits_table, Demand}
use Rattle.schema_json_shapes.specs.Reads.{IsDemandFault, field_demands}
use Rattle.schema_json_shapes.proofs.Demands.{row_refused, rows_met}
use Rattle.schema_json_shapes.specs.Walk.{names}
use Rattle.schema_compat_shapes.specs.OldWalk.{at_field, old_type_demands, old_entity_type_fields}
use Rattle.schema_compat_shapes.specs.OldParts.{IsOldEntityTypeIn}
use Rattle.schema_compat_shapes.proofs.entity_types.read_members.Goals as goal

abbrev field_rows : Members → List (List Demand)
field_rows ms =
    field_demands names (codes "memberOfTypes") (get_member (codes "memberOfTypes") ms)
    ∷ at_field old_type_demands (codes "shape") (get_member (codes "shape") ms) ∷ []

pub returns-in_err-check_fields : goal.returns-in_err-check_fields
returns-in_err-check_fields c =
    let ms = members_view c.args.members.now.entries in
    row_refused (IsOldEntityTypeIn ms) (fits_table old_entity_type_fields ms) (field_rows ms) 0 c.from_residual.result
    c.in_err-check_fields.field-0.0 c.from_residual.ensures.1
    (subst (λ fs. IsDemandFault (fits_table fs ms) c.in_err-check_fields.field-0.0) c.entity_type_fields.ensures
    c.in_err-check_fields.ensures)

pub returns-in_err-member_of_types : goal.returns-in_err-member_of_types
returns-in_err-member_of_types c =
    let ms = members_view c.args.members.now.entries in
    let own = subst (λ fs. AllMet (fits_table fs ms)) c.entity_type_fields.ensures c.in_ok-check_fields.ensures.0 in
    row_refused (IsOldEntityTypeIn ms) (fits_table old_entity_type_fields ms) (field_rows ms) 1
    c.from_residual-in_err-member_of_types.result c.in_err-member_of_types.field-0.0
    c.from_residual-in_err-member_of_types.ensures.1 own c.in_err-member_of_types.ensures

pub returns-in_err-shape : goal.returns-in_err-shape
returns-in_err-shape c =
    let ms = members_view c.args.members.now.entries in
    let own = subst (λ fs. AllMet (fits_table fs ms)) c.entity_type_fields.ensures c.in_ok-check_fields.ensures.0 in
    row_refused (IsOldEntityTypeIn ms) (fits_table old_entity_type_fields ms) (field_rows ms) 2
    c.from_residual-in_err-shape.result c.in_err-shape.field-0.0 c.from_residual-in_err-shape.ensures.1 own
    c.in_ok-member_of_types.ensures.0 c.in_err-shape.ensures

pub returns : goal.returns
returns c =
    let ms = members_view c.args.members.now.entries in
    let own = subst (λ fs. AllMet (fits_table fs ms)) c.entity_type_fields.ensures c.in_ok-check_fields.ensures.0 in (
      rows_met (fits_table old_entity_type_fields ms) (field_rows ms) _ (λ h. h) own c.in_ok-member_of_types.ensures.0
          c.in_ok-shape.ensures.0,
      record {
        parents = c.in_ok-member_of_types.ensures.1;
        shaped = c.in_ok-shape.ensures.1;
      },
    )
