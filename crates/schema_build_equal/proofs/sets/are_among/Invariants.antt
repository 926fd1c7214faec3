use Rattle.std.proofs.Common.{◌≡◌, true, take}
use Rattle.schema_build_equal.specs.Among.{are_among}
use Rattle.schema_build_equal.proofs.sets.are_among.Given as goal

abbrev pub invariant-loop-item : goal.invariant-loop-item
invariant-loop-item g l = are_among g.T.PartialEq.eq (take l.item-index l.items) l.others ≡ true
