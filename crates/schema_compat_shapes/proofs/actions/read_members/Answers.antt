use Rattle.std.proofs.Common.{subst, List, [], ◌∷◌}
use Rattle.std.specs.Prelude.{codes}
use Rattle.serde_json.specs.Find.{get_member}
use Rattle.serde_json.specs.View.{members_view}
use Rattle.serde_json.specs.Data.{Members}
use Rattle.schema_json_shapes.specs.Walk.{AllMet, fits_table, Demand}
use Rattle.schema_json_shapes.specs.Reads.{IsDemandFault, field_demands}
use Rattle.schema_json_shapes.proofs.Demands.{row_refused, rows_met}
use Rattle.schema_json_shapes.specs.Walk.{keys, action_ids, or_null}
use Rattle.schema_json_shapes.specs.Said.{not_null}
use Rattle.schema_compat_shapes.specs.OldWalk.{at_field, old_applies_to_demands, old_action_fields}
use Rattle.schema_compat_shapes.specs.OldParts.{IsOldActionIn}
use Rattle.schema_compat_shapes.proofs.actions.read_members.Goals as goal

abbrev field_rows : Members → List (List Demand)
field_rows ms =
    at_field old_applies_to_demands (codes "appliesTo") (not_null (get_member (codes "appliesTo") ms))
    ∷ field_demands (or_null keys) (codes "attributes") (get_member (codes "attributes") ms)
    ∷ field_demands (or_null action_ids) (codes "memberOf") (get_member (codes "memberOf") ms) ∷ []

pub returns-in_err-check_fields : goal.returns-in_err-check_fields
returns-in_err-check_fields c =
    let ms = members_view c.args.members.now.entries in
    row_refused (IsOldActionIn ms) (fits_table old_action_fields ms) (field_rows ms) 0 c.from_residual.result
    c.in_err-check_fields.field-0.0 c.from_residual.ensures.1
    (subst (λ fs. IsDemandFault (fits_table fs ms) c.in_err-check_fields.field-0.0) c.action_fields.ensures
    c.in_err-check_fields.ensures)

pub returns-in_err-applies_to : goal.returns-in_err-applies_to
returns-in_err-applies_to c =
    let ms = members_view c.args.members.now.entries in
    let own = subst (λ fs. AllMet (fits_table fs ms)) c.action_fields.ensures c.in_ok-check_fields.ensures.0 in
    row_refused (IsOldActionIn ms) (fits_table old_action_fields ms) (field_rows ms) 1
    c.from_residual-in_err-applies_to.result c.in_err-applies_to.field-0.0 c.from_residual-in_err-applies_to.ensures.1
    own c.in_err-applies_to.ensures

pub returns-in_err-attributes : goal.returns-in_err-attributes
returns-in_err-attributes c =
    let ms = members_view c.args.members.now.entries in
    let own = subst (λ fs. AllMet (fits_table fs ms)) c.action_fields.ensures c.in_ok-check_fields.ensures.0 in
    row_refused (IsOldActionIn ms) (fits_table old_action_fields ms) (field_rows ms) 2
    c.from_residual-in_err-attributes.result c.in_err-attributes.field-0.0 c.from_residual-in_err-attributes.ensures.1
    own c.in_ok-applies_to.ensures.0 c.in_err-attributes.ensures

pub returns-in_err-member_of : goal.returns-in_err-member_of
returns-in_err-member_of c =
    let ms = members_view c.args.members.now.entries in
    let own = subst (λ fs. AllMet (fits_table fs ms)) c.action_fields.ensures c.in_ok-check_fields.ensures.0 in
    row_refused (IsOldActionIn ms) (fits_table old_action_fields ms) (field_rows ms) 3
    c.from_residual-in_err-member_of.result c.in_err-member_of.field-0.0 c.from_residual-in_err-member_of.ensures.1 own
    c.in_ok-applies_to.ensures.0 c.in_ok-attributes.ensures.0 c.in_err-member_of.ensures

pub returns : goal.returns
returns c =
    let ms = members_view c.args.members.now.entries in
    let own = subst (λ fs. AllMet (fits_table fs ms)) c.action_fields.ensures c.in_ok-check_fields.ensures.0 in (
      rows_met (fits_table old_action_fields ms) (field_rows ms) _ (λ h. h) own c.in_ok-applies_to.ensures.0
          c.in_ok-attributes.ensures.0 c.in_ok-member_of.ensures.0,
      record {
        attributed = c.in_ok-attributes.ensures.1;
        applied = c.in_ok-applies_to.ensures.1;
        parents = c.in_ok-member_of.ensures.1;
      },
    )
