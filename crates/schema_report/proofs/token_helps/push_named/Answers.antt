use Rattle.std.proofs.Common.{◌++◌, codes}
use Rattle.std.proofs.lemmas.Result.{on_ok_weaker}
use Rattle.schema_report.specs.Escapes.{on_screen}
use Rattle.schema_report.specs.TokenHelps.{code_point, ending}
use Rattle.schema_report.proofs.Chains.{step}
use Rattle.schema_report.proofs.token_helps.push_named.Goals as goal

pub returns : goal.returns
returns c =
    let c1 = c.args.c in
    let r5 = ending c1 in
    let r4 = code_point c1 ++ r5 in
    let r3 = codes "` (U+" ++ r4 in
    let r2 = on_screen c1 ++ r3 in
    on_ok_weaker c.push_ending.result (λ e. step c.args.out.now (codes "`") r2 c.in_ok-push.ensures
    (step c.push.new.out (on_screen c1) r3 c.in_ok-push_on_screen.ensures
    (step c.push_on_screen.new.out (codes "` (U+") r4 c.in_ok-push-2.ensures
    (step c.push-2.new.out (code_point c1) r5 c.in_ok-push_code_point.ensures e)))) c.push_ending.ensures
