use Rattle.std.proofs.Common.{◌≤◌, ◌-◌, length}
use Rattle.schema_inclusion_check.specs.Rows.{AreTypesBelow}
use Rattle.schema_inclusion_check.proofs.ids_between.first_of_type.Given as goal

abbrev pub invariant-loop-low : goal.invariant-loop-low
invariant-loop-low l = record {
  ordered : l.low ≤ l.high;
  within : l.high ≤ length l.actions;
  below : AreTypesBelow l.actions l.low l.ty;
}

abbrev pub decreases-loop-low : goal.decreases-loop-low
decreases-loop-low l = l.high - l.low
