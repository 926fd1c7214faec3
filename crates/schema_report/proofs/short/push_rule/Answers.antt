use Rattle.std.proofs.Common.{◌++◌, codes}
use Rattle.std.proofs.lemmas.Result.{on_ok_weaker}
use Rattle.schema_report.specs.Short.{shown}
use Rattle.schema_report.proofs.Chains.{step}
use Rattle.schema_report.proofs.short.push_rule.Goals as goal

pub returns-in_ok-push_text-in-Some : goal.returns-in_ok-push_text-in-Some
returns-in_ok-push_text-in-Some c =
    let r3 = codes "]" in
    let r2 = shown c.in-Some.name ++ r3 in
    rw c.in-Some.is (on_ok_weaker c.push-in-Some.result (λ e. step c.args.out.now (codes "[") r2
    c.in_ok-push-in-Some.ensures
    (step c.push.new.out (shown c.in-Some.name) r3 c.in_ok-push_text-in-Some.ensures e)) c.push-in-Some.ensures)
