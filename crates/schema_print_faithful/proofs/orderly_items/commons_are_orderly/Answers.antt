use Rattle.std.proofs.Common.{subst, take_all, All}
use Rattle.std.proofs.lemmas.List.Elements.{All-more, recursion_from_All}
use Rattle.schema_print_faithful.proofs.OrderlyItems.{IsOrderlyCommon}
use Rattle.schema_print_faithful.proofs.orderly_items.commons_are_orderly.Goals as goal

pub loop-common-preserved : goal.loop-common-preserved
loop-common-preserved c =
    All-more IsOrderlyCommon c.args.entries.now c.loop-common.common-index c.loop-common-item.result
    c.loop-common-test.true c.loop-common.invariant
    (subst IsOrderlyCommon c.loop-common-item.is (c.annotations_rise.ensures, c.type_is_orderly.ensures))

pub returns : goal.returns
returns c =
    recursion_from_All IsOrderlyCommon c.args.entries.now
    (subst (All IsOrderlyCommon) (take_all c.loop-common.common-index c.args.entries.now c.loop-common-test.false)
    c.loop-common.invariant)
