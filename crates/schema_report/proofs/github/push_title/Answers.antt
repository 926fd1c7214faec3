use Rattle.std.proofs.Common.{codes}
use Rattle.std.proofs.lemmas.Result.{on_ok_weaker}
use Rattle.std.specs.List.{flat_map}
use Rattle.schema_report.specs.Escapes.{in_property}
use Rattle.schema_report.proofs.Chains.{step}
use Rattle.schema_report.proofs.github.push_title.Goals as goal

pub returns-in_ok-push-in-Some : goal.returns-in_ok-push-in-Some
returns-in_ok-push-in-Some c =
    let r2 = flat_map in_property c.in-Some.name in
    rw c.in-Some.is (on_ok_weaker c.push_text.result (λ e. step c.args.out.now (codes ",title=") r2
    c.in_ok-push-in-Some.ensures e) c.push_text.ensures)
