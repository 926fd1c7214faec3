use Rattle.std.proofs.Common.{◌++◌, codes, ◌+◌, decimal}
use Rattle.std.proofs.lemmas.Result.{on_ok_weaker}
use Rattle.schema_report.proofs.Chains.{step}
use Rattle.schema_report.proofs.human.push_up_to.Goals as goal

pub returns : goal.returns
returns c =
    let line = c.args.line in
    let r3 = codes ")" in
    let r2 = decimal (line + 1) ++ r3 in
    on_ok_weaker c.push-2.result (λ e. step c.args.out.now (codes " (up to line ") r2 c.in_ok-push.ensures
    (step c.push.new.out (decimal (line + 1)) r3 c.in_ok-push_from_one.ensures e)) c.push-2.ensures
