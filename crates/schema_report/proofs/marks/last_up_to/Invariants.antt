use Rattle.std.proofs.Common.{◌-◌, ◌<◌, ◌≤◌, length, get_or}
use Rattle.schema_report.proofs.marks.last_up_to.Given as goal

abbrev pub invariant-loop-high : goal.invariant-loop-high
invariant-loop-high l = (l.low < l.high) × (l.high ≤ length l.rising) × (get_or l.rising l.low 0 ≤ l.byte)
    × (l.high < length l.rising → l.byte < get_or l.rising l.high 0)

abbrev pub decreases-loop-high : goal.decreases-loop-high
decreases-loop-high l = l.high - l.low
