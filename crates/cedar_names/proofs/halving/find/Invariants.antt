use Rattle.std.proofs.Common.{◌≤◌, ◌-◌, length}
use Rattle.cedar_names.specs.Searches.{StandsWithin}
use Rattle.cedar_names.proofs.Cost.{IsCost}
use Rattle.cedar_names.proofs.halving.find.Given as goal

abbrev pub invariant-loop-low : goal.invariant-loop-low
invariant-loop-low g l = record {
  ordered : l.low ≤ l.high;
  within : StandsWithin (g.S.Sought.place l.sought) l.items l.low l.high;
  cost : IsCost g.C.Counter.counts (g.C.Counter.taken l.fn.counter) (g.C.Counter.taken l.counter) (l.high - l.low)
      (length l.items);
}

abbrev pub decreases-loop-low : goal.decreases-loop-low
decreases-loop-low g l = l.high - l.low
