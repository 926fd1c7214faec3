use Rattle.std.proofs.Common.{◌++◌, codes}
use Rattle.std.proofs.lemmas.Result.{on_ok_weaker}
use Rattle.schema_report.specs.Human.{coloured}
use Rattle.schema_report.proofs.Chains.{step}
use Rattle.schema_report.proofs.human.push_framed.Goals as goal

pub returns : goal.returns
returns c =
    let colour = c.args.colour in
    let r3 = coloured colour (codes "[0m") in
    let r2 = c.args.words.now ++ r3 in
    on_ok_weaker c.push_code-2.result (λ e. step c.args.out.now (coloured colour (codes "[1;34m")) r2
    c.in_ok-push_code.ensures
    (step c.push_code.new.out (c.args.words.now) r3 c.in_ok-push.ensures e)) c.push_code-2.ensures
