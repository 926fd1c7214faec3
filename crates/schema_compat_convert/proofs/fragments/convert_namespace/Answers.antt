use Rattle.schema_json_shapes.proofs.Demands.{both_met, fails, passes, refused}
use Rattle.schema_compat_convert.proofs.fragments.convert_namespace.Goals as goal

pub returns-in_err-actions : goal.returns-in_err-actions
returns-in_err-actions c =
    let e = c.in_err-actions.field-0.0 in
    refused c.from_residual.result e _ _ c.from_residual.ensures.1
    (fails _ _ e c.in_err-actions.ensures)

pub returns-in_err-common_types : goal.returns-in_err-common_types
returns-in_err-common_types c =
    let e = c.in_err-common_types.field-0.0 in
    refused c.from_residual-in_err-common_types.result e _ _ c.from_residual-in_err-common_types.ensures.1
    (passes _ _ e c.in_ok-actions.ensures.0 (fails _ _ e c.in_err-common_types.ensures))

pub returns-in_err-entity_types : goal.returns-in_err-entity_types
returns-in_err-entity_types c =
    let e = c.in_err-entity_types.field-0.0 in
    refused c.from_residual-in_err-entity_types.result e _ _ c.from_residual-in_err-entity_types.ensures.1
    (passes _ _ e c.in_ok-actions.ensures.0
    (passes _ _ e c.in_ok-common_types.ensures.0 c.in_err-entity_types.ensures))

pub returns : goal.returns
returns c = (
  both_met _ _ c.in_ok-actions.ensures.0
      (both_met _ _ c.in_ok-common_types.ensures.0 c.in_ok-entity_types.ensures.0),
  record {
    commons = c.in_ok-common_types.ensures.1;
    entities = c.in_ok-entity_types.ensures.1;
    actions = c.in_ok-actions.ensures.1;
    bare = λ i. record { 0 = c.new.ensures i };
  },
)
