use Rattle.std.proofs.lemmas.Grind.{common_steps}
use Rattle.std.proofs.Common.{◌++◌, map, ap, sym, ◌∙◌, arith}
use Rattle.std.proofs.lemmas.List.{take_all}
use Rattle.cedar_data.proofs.Lists.{map-map}
use Rattle.schema_build_types.specs.Content.{entity_content, action_content}
use Rattle.schema_build_text.specs.Walk.{entity_type, action}
use Rattle.schema_build_text.proofs.items.lend_items.Goals as goal

pub returns : goal.returns
returns c =
    let es = c.args.entities.now in
    let us = c.args.actions.now in
    let all = ap (map (λ a. action (action_content a)))
    (take_all c.loop-action.action-index us (omega (arith, c.loop-action-test.false)))
    ∙ sym (map-map action action_content us) in
    c.loop-action.invariant ∙ (λ i. sym (map-map entity_type entity_content es) i ++ all i)

pub loop-action-init : goal.loop-action-init
loop-action-init c = grind (arith, common_steps)

pub loop-action-preserved : goal.loop-action-preserved
loop-action-preserved c = grind (arith, common_steps)

pub loop-entity-preserved : goal.loop-entity-preserved
loop-entity-preserved c = grind (arith, common_steps)
