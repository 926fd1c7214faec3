use Rattle.std.proofs.Common.{codes}
use Rattle.std.proofs.lemmas.Result.{on_ok_weaker}
use Rattle.std.specs.List.{flat_map}
use Rattle.schema_report.specs.Escapes.{in_message}
use Rattle.schema_report.proofs.Chains.{step}
use Rattle.schema_report.proofs.github.push_help.Goals as goal

pub returns-in_ok-push-in-Some : goal.returns-in_ok-push-in-Some
returns-in_ok-push-in-Some c =
    let r2 = flat_map in_message c.in-Some.help in
    rw c.in-Some.is (on_ok_weaker c.push_text.result (λ e. step c.args.out.now (codes "%0Ahelp: ") r2
    c.in_ok-push-in-Some.ensures e) c.push_text.ensures)
