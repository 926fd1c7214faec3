use Rattle.std.proofs.Common.{◌≤◌, ◌-◌, length}
use Rattle.schema_build_hierarchy.proofs.ranks.rank_near.Given as goal

abbrev pub invariant-loop-low : goal.invariant-loop-low
invariant-loop-low g l = record {
  within : l.high ≤ length l.entries;
}

abbrev pub decreases-loop-low : goal.decreases-loop-low
decreases-loop-low g l = l.high - l.low
