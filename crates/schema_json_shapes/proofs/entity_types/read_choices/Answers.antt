use Rattle.std.proofs.Common.{refl, subst, rules}
use Rattle.std.specs.Prelude.{codes}
use Rattle.serde_json.specs.View.{view, items_view}
use Rattle.cedar_identifiers.specs.declared.eid.Eid.{Eid}
use Rattle.schema_json_shapes.specs.Walk.{text, AllMet, item_demands}
use Rattle.schema_json_shapes.specs.Said.{IsChoice, AreItems}
use Rattle.schema_json_shapes.specs.Reads.{IsDemandFault}
use Rattle.schema_json_shapes.proofs.Demands.{refused}
use Rattle.schema_json_shapes.proofs.EntityKinds.{choice_says}
use Rattle.schema_json_shapes.proofs.Ahead.{all_items_left, item_fails, item_passes, no_items_left, no_item_found}
use Rattle.schema_json_shapes.proofs.Ahead.{item_found, all_items_found}
use Rattle.schema_json_shapes.proofs.entity_types.read_choices.Goals as goal

pub loop-item-init : goal.loop-item-init
loop-item-init c = record {
  left = all_items_left text (codes "enum") (items_view c.deref-item-items.result.now);
  found = no_item_found IsChoice (items_view c.deref-item-items.result.now) c.new-choices.result.items (search rules);
}

pub loop-item-preserved : goal.loop-item-preserved
loop-item-preserved c =
    let vs = c.deref-item-items.result.now in
    let l = c.loop-item in
    let x : Eid = record { 0 = c.in_ok-text.text } in
    let says = choice_says (view c.item-item.result) c.in_ok-text.text x refl c.in_ok-text.ensures.1 in
    record {
      left = item_passes text (codes "enum") vs l.item-index c.item-item.result (items_view vs) c.loop-item-test.true
          c.item-item.is l.invariant.left c.in_ok-text.ensures.0;
      found = item_found IsChoice vs l.item-index c.item-item.result (items_view vs) l.choices.items _ x
          c.loop-item-test.true c.item-item.is l.invariant.found says c.in_ok-push.ensures.items;
    }

pub returns-in_err-text : goal.returns-in_err-text
returns-in_err-text c =
    let vs = c.deref-item-items.result.now in
    let e = c.in_err-text.field-0.0 in
    let fault = item_fails text (codes "enum") vs c.loop-item.item-index c.item-item.result (items_view vs) e
    c.loop-item-test.true c.item-item.is c.loop-item.invariant.left c.in_err-text.ensures in
    refused c.from_residual.result e _ _ c.from_residual.ensures.1
    (subst (λ ys. IsDemandFault (item_demands text (codes "enum") (items_view ys)) e) c.deref-item-items.ensures.value fault)

pub returns : goal.returns
returns c =
    let vs = c.deref-item-items.result.now in
    let l = c.loop-item in (
      subst (λ ys. AllMet (item_demands text (codes "enum") (items_view ys))) c.deref-item-items.ensures.value
          (no_items_left text (codes "enum") vs l.item-index (items_view vs) c.loop-item-test.false l.invariant.left),
      subst (λ ys. AreItems IsChoice (items_view ys) l.choices.items) c.deref-item-items.ensures.value
          (all_items_found IsChoice vs l.item-index (items_view vs) l.choices.items c.loop-item-test.false
          l.invariant.found),
    )
