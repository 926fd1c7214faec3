use Rattle.schema_report.proofs.FrontLemmas.{Passed}
use Rattle.schema_report.proofs.fronts.past_chars.Given as goal

abbrev pub invariant-loop-at : goal.invariant-loop-at
invariant-loop-at l = Passed l.fn.text l._at l.rest
