use Rattle.std.proofs.Common.{sym, subst}
use Rattle.std.specs.Prelude.{codes}
use Rattle.serde_json.specs.Find.{get_member}
use Rattle.serde_json.specs.View.{view, members_view}
use Rattle.std.specs.Prelude.{Some}
use Rattle.schema_json_shapes.specs.Walk.{AllMet, action_id, action_id_member}
use Rattle.schema_json_shapes.specs.Shapes.{IsActionIdIn}
use Rattle.schema_json_shapes.specs.Reads.{IsDemandFault, field_demands}
use Rattle.schema_json_shapes.specs.Walk.{text, fits_table}
use Rattle.schema_json_shapes.specs.Said.{IsOptional, IsNamed, not_null}
use Rattle.schema_json_shapes.specs.Shapes.{IsTextIn}
use Rattle.schema_json_shapes.proofs.Wholes.{action_id_has_id, action_id_names, field_refused, fields_met}
use Rattle.schema_json_shapes.proofs.Order.{Rises-view}
use Rattle.schema_json_shapes.proofs.Wholes.{action_id_whole}
use Rattle.schema_json_shapes.proofs.actions.read_id_members.Goals as goal

pub needed-value-requires : goal.needed-value-requires
needed-value-requires c = action_id_has_id (codes "memberOf") (members_view c.args.members.now.entries)
    (subst (λ fs. AllMet (fits_table fs (members_view c.args.members.now.entries))) c.action_id_fields.ensures
    c.in_ok-check_fields.ensures.0)

pub returns-in_err-id : goal.returns-in_err-id
returns-in_err-id c =
    let ms = members_view c.args.members.now.entries in
    let own = subst (λ fs. AllMet (fits_table fs ms)) c.action_id_fields.ensures c.in_ok-check_fields.ensures.0 in
    field_refused action_id (codes "memberOf") action_id_member action_id_names ms
    (action_id_whole (codes "memberOf") ms (Rises-view c.args.members.now.entries c.len.ensures.ordered) own)
    (IsActionIdIn ms) 1 c.from_residual-in_err-id.result c.in_err-id.field-0.0 c.from_residual-in_err-id.ensures.1 own
    (subst (λ o. IsDemandFault (field_demands text (codes "id") o) c.in_err-id.field-0.0) (sym c.needed-value.ensures)
    c.in_err-id.ensures)

pub returns-in_err-ty : goal.returns-in_err-ty
returns-in_err-ty c =
    let ms = members_view c.args.members.now.entries in
    let own = subst (λ fs. AllMet (fits_table fs ms)) c.action_id_fields.ensures c.in_ok-check_fields.ensures.0 in
    field_refused action_id (codes "memberOf") action_id_member action_id_names ms
    (action_id_whole (codes "memberOf") ms (Rises-view c.args.members.now.entries c.len.ensures.ordered) own)
    (IsActionIdIn ms) 2 c.from_residual-in_err-ty.result c.in_err-ty.field-0.0 c.from_residual-in_err-ty.ensures.1 own
    (subst (λ o. AllMet (field_demands text (codes "id") o)) (sym c.needed-value.ensures) c.in_ok-id.ensures.0)
    c.in_err-ty.ensures

pub returns : goal.returns
returns c =
    let ms = members_view c.args.members.now.entries in
    let own = subst (λ fs. AllMet (fits_table fs ms)) c.action_id_fields.ensures c.in_ok-check_fields.ensures.0 in (
      fields_met action_id (codes "memberOf") action_id_member action_id_names ms
          (action_id_whole (codes "memberOf") ms (Rises-view c.args.members.now.entries c.len.ensures.ordered) own) own
          (subst (λ o. AllMet (field_demands text (codes "id") o)) (sym c.needed-value.ensures) c.in_ok-id.ensures.0)
          c.in_ok-ty.ensures.0 tt,
      record {
        named = subst (λ o. IsTextIn o c.new.result.id) (sym c.needed-value.ensures)
            (subst (IsTextIn (Some (view c.needed-value.result.now))) (sym c.new.ensures.id) c.in_ok-id.ensures.1);
        typed = subst (IsOptional IsNamed (not_null (get_member (codes "type") ms))) (sym c.new.ensures.ty)
            c.in_ok-ty.ensures.1;
      },
    )
