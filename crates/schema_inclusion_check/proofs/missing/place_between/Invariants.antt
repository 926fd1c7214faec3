use Rattle.std.proofs.Common.{◌≡◌, ◌-◌, take, drop}
use Rattle.std.specs.List.{list_any}
use Rattle.schema_inclusion_check.proofs.missing.place_between.Given as goal

abbrev pub invariant-loop-at : goal.invariant-loop-at
invariant-loop-at g l =
    list_any (g.T.PartialEq.eq l.item) (drop l.from (take l.to l.items))
    ≡ list_any (g.T.PartialEq.eq l.item) (drop l.at (take l.to l.items))

abbrev pub decreases-loop-at : goal.decreases-loop-at
decreases-loop-at g l = l.to - l.at
