use Rattle.std.proofs.Common.{◌≤◌, ◌-◌, true, length, map}
use Rattle.cedar_data.specs.Halving.{IsGap}
use Rattle.cedar_names.proofs.Cost.{IsCost}
use Rattle.schema_build_types.proofs.lookups.search_counted.Given as goal

abbrev pub invariant-loop-low : goal.invariant-loop-low
invariant-loop-low g l = record {
  ordered : l.low ≤ l.high;
  within : l.high ≤ length l.entries;
  gap : IsGap g.E.Key.Ord.cmp l.key (map g.E.Keyed.pair l.entries) l.low l.high;
  counted : l.fn.steps ≤ l.steps;
  cost : IsCost true l.fn.steps l.steps (l.high - l.low) (length l.entries);
}

abbrev pub decreases-loop-low : goal.decreases-loop-low
decreases-loop-low g l = l.high - l.low
