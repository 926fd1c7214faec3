use Rattle.std.proofs.Common.{◌≡◌, map, take}
use Rattle.schema_build_recovered.proofs.fragment.lend.Given as goal

abbrev pub invariant-loop-item : goal.invariant-loop-item
invariant-loop-item g l = map (λ x. x.now) l.lent.items ≡ take l.item-index l.items
