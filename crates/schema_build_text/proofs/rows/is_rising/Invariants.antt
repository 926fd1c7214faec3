use Rattle.std.proofs.Common.{◌≡◌, ◌-◌, ◌≤◌, drop, length}
use Rattle.schema_build_text.specs.Rows.{sorted_once}
use Rattle.schema_build_text.proofs.rows.is_rising.Given as goal

abbrev pub invariant-loop-at : goal.invariant-loop-at
invariant-loop-at g l =
    (l.at ≤ length l.items) × (sorted_once g.T.Ord.cmp (drop (l.at - 1) l.items) ≡ drop (l.at - 1) l.items)

abbrev pub decreases-loop-at : goal.decreases-loop-at
decreases-loop-at g l = l.at
