use Rattle.std.proofs.Common.{take}
use Rattle.std.specs.List.{AllZip}
use Rattle.schema_build_recovered.proofs.sets.recovered_in_order.Given as goal

abbrev pub invariant-loop-item : goal.invariant-loop-item
invariant-loop-item g l =
    AllZip (λ x out. g.T.Recover.is_recovered x.now out) (take l.item-index l.item-items) l.recovered.items
