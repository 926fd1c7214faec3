use Rattle.std.proofs.Common.{◌≤◌, ◌-◌, length}
use Rattle.schema_inclusion_check.specs.Below.{AreBelow}
use Rattle.schema_inclusion_explain.proofs.seek.seek.Given as goal

abbrev pub invariant-loop-at : goal.invariant-loop-at
invariant-loop-at g l = record {
  within : l.at ≤ length l.entries;
  below : AreBelow g.E.Key.Ord.cmp (λ e. (g.E.Keyed.pair e).0) l.entries l.at l.key;
}

abbrev pub decreases-loop-at : goal.decreases-loop-at
decreases-loop-at g l = length l.entries - l.at
