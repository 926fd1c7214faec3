use Rattle.std.proofs.Common.{arith}
use Rattle.schema_report.proofs.FrontLemmas.{pass_none, pass_one, passed_out, past_rest}
use Rattle.schema_report.proofs.fronts.past_chars.Goals as goal

pub loop-at-init : goal.loop-at-init
loop-at-init c = pass_none c.args.text.now c.utf8.text

pub loop-at-preserved : goal.loop-at-preserved
loop-at-preserved c = pass_one _ _ _ _ _ c.loop-at.invariant c.in-Some.ensures

pub returns-in-None-clause-cut : goal.returns-in-None-clause-cut
returns-in-None-clause-cut c =
    passed_out _ c.loop-at._at c.args.count _ c.loop-at.invariant (omega arith) c.in-None.ensures

pub returns-in-None-clause-rest : goal.returns-in-None-clause-rest
returns-in-None-clause-rest c = past_rest _ _ _
    (passed_out _ c.loop-at._at c.args.count _ c.loop-at.invariant (omega arith) c.in-None.ensures)
