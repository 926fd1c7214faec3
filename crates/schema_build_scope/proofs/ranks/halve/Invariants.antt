use Rattle.std.proofs.Common.{◌≤◌, ◌-◌}
use Rattle.std.specs.Option.{option_copied}
use Rattle.cedar_data.specs.Halving.{IsGap}
use Rattle.cedar_identifiers.specs.Candidates.{qualified}
use Rattle.cedar_names.specs.Orders.{names_in_order}
use Rattle.schema_build_scope.proofs.ranks.halve.Given as goal

abbrev pub invariant-loop-low : goal.invariant-loop-low
invariant-loop-low g l = record {
  ordered : l.low ≤ l.high;
  gap : IsGap names_in_order (qualified (option_copied l.ns) l.name) l.entries l.low l.high;
}

abbrev pub decreases-loop-low : goal.decreases-loop-low
decreases-loop-low g l = l.high - l.low
