use Rattle.std.proofs.Common.{◌≤◌, ◌-◌, length}
use Rattle.schema_inclusion_check.specs.Below.{AreBelow}
use Rattle.schema_inclusion_explain.proofs.seek.first_from.Given as goal

abbrev pub invariant-loop-low : goal.invariant-loop-low
invariant-loop-low g l = record {
  ordered : l.low ≤ l.high;
  within : l.high ≤ length l.entries;
  below : AreBelow g.E.Key.Ord.cmp (λ e. (g.E.Keyed.pair e).0) l.entries l.low l.key;
}

abbrev pub decreases-loop-low : goal.decreases-loop-low
decreases-loop-low g l = l.high - l.low
