use Rattle.schema_report.proofs.LineLemmas.{Walked}
use Rattle.schema_report.proofs.lines.byte_in.Given as goal

abbrev pub invariant-loop-left : goal.invariant-loop-left
invariant-loop-left l = Walked l.line l.units l.column l.rest l.left

abbrev pub decreases-loop-left : goal.decreases-loop-left
decreases-loop-left l = l.left
