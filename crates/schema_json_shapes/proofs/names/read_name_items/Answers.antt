use Rattle.std.proofs.Common.{subst}
use Rattle.serde_json.specs.View.{items_view}
use Rattle.schema_json_shapes.specs.Walk.{named, AllMet, item_demands}
use Rattle.schema_json_shapes.specs.Said.{IsNamed, AreItems}
use Rattle.schema_json_shapes.specs.Reads.{IsDemandFault}
use Rattle.schema_json_shapes.specs.declared.name_role.NameRole.TheVariants as role
use Rattle.schema_json_shapes.proofs.Demands.{refused}
use Rattle.schema_json_shapes.proofs.Ahead.{all_items_left, item_fails, item_passes, no_items_left, no_item_found}
use Rattle.schema_json_shapes.proofs.Ahead.{item_found, all_items_found}
use Rattle.schema_json_shapes.proofs.names.read_name_items.Goals as goal

pub loop-item-init : goal.loop-item-init
loop-item-init c = record {
  left = all_items_left (named role.Name) c.args.label.now (items_view c.deref-item-items.result.now);
  found = no_item_found IsNamed (items_view c.deref-item-items.result.now) c.new-found.result c.new-found.ensures;
}

pub loop-item-preserved : goal.loop-item-preserved
loop-item-preserved c =
    let vs = c.deref-item-items.result.now in
    let l = c.loop-item in
    record {
      left = item_passes (named role.Name) c.args.label.now vs l.item-index c.item-item.result (items_view vs)
          c.loop-item-test.true c.item-item.is l.invariant.left c.in_ok-name.ensures.0;
      found = item_found IsNamed vs l.item-index c.item-item.result (items_view vs) l.found c.push.new.self
          c.in_ok-name.name c.loop-item-test.true c.item-item.is l.invariant.found c.in_ok-name.ensures.1
          c.in_ok-push.ensures.ok;
    }

pub returns-in_err-name : goal.returns-in_err-name
returns-in_err-name c =
    let vs = c.deref-item-items.result.now in
    let e = c.in_err-name.field-0.0 in
    let fault = item_fails (named role.Name) c.args.label.now vs c.loop-item.item-index c.item-item.result
    (items_view vs) e c.loop-item-test.true c.item-item.is c.loop-item.invariant.left c.in_err-name.ensures in
    refused c.from_residual.result e _ _ c.from_residual.ensures.1
    (subst (λ ys. IsDemandFault (item_demands (named role.Name) c.args.label.now (items_view ys)) e)
    c.deref-item-items.ensures.value fault)

pub returns : goal.returns
returns c =
    let vs = c.deref-item-items.result.now in
    let l = c.loop-item in (
      subst (λ ys. AllMet (item_demands (named role.Name) c.args.label.now (items_view ys)))
          c.deref-item-items.ensures.value
          (no_items_left (named role.Name) c.args.label.now vs l.item-index (items_view vs) c.loop-item-test.false
          l.invariant.left),
      subst (λ ys. AreItems IsNamed (items_view ys) l.found) c.deref-item-items.ensures.value
          (all_items_found IsNamed vs l.item-index (items_view vs) l.found c.loop-item-test.false l.invariant.found),
    )
