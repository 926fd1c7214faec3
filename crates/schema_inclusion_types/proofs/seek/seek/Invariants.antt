use Rattle.std.proofs.Common.{◌≤◌, ◌-◌, length}
use Rattle.cedar_data.specs.Halving.{IsGap}
use Rattle.cedar_data.specs.Text.{text_cmp}
use Rattle.schema_inclusion_types.proofs.seek.seek.Given as goal

abbrev pub invariant-loop-at : goal.invariant-loop-at
invariant-loop-at l = record {
  within : l.at ≤ length l.attrs;
  gap : IsGap text_cmp l.name l.attrs l.at (length l.attrs);
}

abbrev pub decreases-loop-at : goal.decreases-loop-at
decreases-loop-at l = length l.attrs - l.at
