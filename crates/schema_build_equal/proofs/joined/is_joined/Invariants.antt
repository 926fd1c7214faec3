use Rattle.std.proofs.Common.{◌≡◌}
use Rattle.std.specs.List.{list_any}
use Rattle.cedar_data.specs.NonEmpty.{items_left}
use Rattle.schema_build_equal.proofs.joined.is_joined.Given as goal

abbrev pub invariant-loop-other : goal.invariant-loop-other
invariant-loop-other g l =
    list_any (λ y. g.T.PartialEq.eq y l.item) l.items
    ≡ list_any (λ y. g.T.PartialEq.eq y l.item) (items_left l.other-iterator)
