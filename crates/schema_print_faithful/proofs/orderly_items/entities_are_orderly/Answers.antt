use Rattle.std.proofs.Common.{subst, take_all, All}
use Rattle.std.proofs.lemmas.List.Elements.{All-more, recursion_from_All}
use Rattle.schema_print_faithful.proofs.OrderlyItems.{IsOrderlyEntity}
use Rattle.schema_print_faithful.proofs.orderly_items.entities_are_orderly.Goals as goal

pub loop-entity-preserved : goal.loop-entity-preserved
loop-entity-preserved c =
    All-more IsOrderlyEntity c.args.entries.now c.loop-entity.entity-index c.loop-entity-item.result
    c.loop-entity-test.true c.loop-entity.invariant
    (subst IsOrderlyEntity c.loop-entity-item.is (c.annotations_rise.ensures, c.kind_is_orderly.ensures))

pub returns : goal.returns
returns c =
    recursion_from_All IsOrderlyEntity c.args.entries.now
    (subst (All IsOrderlyEntity) (take_all c.loop-entity.entity-index c.args.entries.now c.loop-entity-test.false)
    c.loop-entity.invariant)
