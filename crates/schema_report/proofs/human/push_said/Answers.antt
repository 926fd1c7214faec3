use Rattle.std.proofs.Common.{codes}
use Rattle.std.proofs.lemmas.Result.{on_ok_weaker}
use Rattle.schema_report.specs.Short.{shown}
use Rattle.schema_report.proofs.Chains.{step}
use Rattle.schema_report.proofs.human.push_said.Goals as goal

pub returns-in_ok-push-in-Some : goal.returns-in_ok-push-in-Some
returns-in_ok-push-in-Some c =
    let r2 = shown c.in-Some.text in
    rw c.in-Some.is (on_ok_weaker c.push_text.result (λ e. step c.args.out.now (codes " ") r2
    c.in_ok-push-in-Some.ensures e) c.push_text.ensures)
