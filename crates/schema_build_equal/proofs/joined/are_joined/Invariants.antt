use Rattle.std.proofs.Common.{◌≡◌}
use Rattle.cedar_data.specs.NonEmpty.{items_left}
use Rattle.schema_build_equal.specs.Among.{are_among}
use Rattle.schema_build_equal.proofs.joined.are_joined.Given as goal

abbrev pub invariant-loop-item : goal.invariant-loop-item
invariant-loop-item g l =
    let eq = g.T.PartialEq.eq in
    are_among eq l.items l.others ≡ are_among eq (items_left l.item-iterator) l.others
