use Rattle.std.proofs.Common.{subst, take_all, All}
use Rattle.std.proofs.lemmas.List.Elements.{All-more, recursion_from_All}
use Rattle.schema_print_faithful.proofs.OrderlyItems.{IsOrderlyAction}
use Rattle.schema_print_faithful.proofs.orderly_items.actions_are_orderly.Goals as goal

pub loop-action-preserved : goal.loop-action-preserved
loop-action-preserved c =
    All-more IsOrderlyAction c.args.entries.now c.loop-action.action-index c.loop-action-item.result
    c.loop-action-test.true c.loop-action.invariant
    (subst IsOrderlyAction c.loop-action-item.is (c.annotations_rise.ensures, c.context_is_orderly.ensures))

pub returns : goal.returns
returns c =
    recursion_from_All IsOrderlyAction c.args.entries.now
    (subst (All IsOrderlyAction) (take_all c.loop-action.action-index c.args.entries.now c.loop-action-test.false)
    c.loop-action.invariant)
