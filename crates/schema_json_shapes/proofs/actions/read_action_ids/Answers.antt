use Rattle.std.proofs.Common.{subst}
use Rattle.std.specs.Prelude.{codes}
use Rattle.serde_json.specs.View.{items_view}
use Rattle.schema_json_shapes.specs.Walk.{action_id, AllMet, item_demands}
use Rattle.schema_json_shapes.specs.Said.{AreItems}
use Rattle.schema_json_shapes.specs.Shapes.{IsActionId}
use Rattle.schema_json_shapes.specs.Reads.{IsDemandFault}
use Rattle.schema_json_shapes.proofs.Demands.{refused}
use Rattle.schema_json_shapes.proofs.Ahead.{all_items_left, item_fails, item_passes, no_items_left, no_item_found}
use Rattle.schema_json_shapes.proofs.Ahead.{item_found, all_items_found}
use Rattle.schema_json_shapes.proofs.actions.read_action_ids.Goals as goal

pub loop-item-init : goal.loop-item-init
loop-item-init c = record {
  left = all_items_left action_id (codes "memberOf") (items_view c.deref-item-items.result.now);
  found = no_item_found IsActionId (items_view c.deref-item-items.result.now) c.new-parents.result
      c.new-parents.ensures;
}

pub loop-item-preserved : goal.loop-item-preserved
loop-item-preserved c =
    let vs = c.deref-item-items.result.now in
    let l = c.loop-item in
    record {
      left = item_passes action_id (codes "memberOf") vs l.item-index c.item-item.result (items_view vs)
          c.loop-item-test.true c.item-item.is l.invariant.left c.in_ok-parent.ensures.0;
      found = item_found IsActionId vs l.item-index c.item-item.result (items_view vs) l.parents c.push.new.self
          c.in_ok-parent.parent c.loop-item-test.true c.item-item.is l.invariant.found c.in_ok-parent.ensures.1
          c.in_ok-push.ensures.ok;
    }

pub returns-in_err-parent : goal.returns-in_err-parent
returns-in_err-parent c =
    let vs = c.deref-item-items.result.now in
    let e = c.in_err-parent.field-0.0 in
    let fault = item_fails action_id (codes "memberOf") vs c.loop-item.item-index c.item-item.result (items_view vs) e
    c.loop-item-test.true c.item-item.is c.loop-item.invariant.left c.in_err-parent.ensures in
    refused c.from_residual.result e _ _ c.from_residual.ensures.1
    (subst (λ ys. IsDemandFault (item_demands action_id (codes "memberOf") (items_view ys)) e)
    c.deref-item-items.ensures.value fault)

pub returns : goal.returns
returns c =
    let vs = c.deref-item-items.result.now in
    let l = c.loop-item in (
      subst (λ ys. AllMet (item_demands action_id (codes "memberOf") (items_view ys)))
          c.deref-item-items.ensures.value
          (no_items_left action_id (codes "memberOf") vs l.item-index (items_view vs) c.loop-item-test.false
          l.invariant.left),
      subst (λ ys. AreItems IsActionId (items_view ys) l.parents) c.deref-item-items.ensures.value
          (all_items_found IsActionId vs l.item-index
          (items_view vs) l.parents c.loop-item-test.false l.invariant.found),
    )
