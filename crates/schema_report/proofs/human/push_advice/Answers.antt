use Rattle.std.proofs.Common.{◌++◌, codes}
use Rattle.std.proofs.lemmas.Result.{on_ok_weaker}
use Rattle.schema_report.specs.Human.{space_row, framed}
use Rattle.schema_report.specs.Short.{shown}
use Rattle.schema_report.proofs.Chains.{step}
use Rattle.schema_report.proofs.human.push_advice.Goals as goal

pub returns : goal.returns
returns c =
    let colour = c.args.frame.colour in
    let gutter = c.args.frame.gutter in
    let r5 = codes "\n" in
    let r4 = shown c.args.help.now ++ r5 in
    let r3 = codes "help: " ++ r4 in
    let r2 = framed colour (codes " = ") ++ r3 in
    on_ok_weaker c.push-2.result (λ e. step c.args.out.now (space_row gutter) r2 c.in_ok-push_repeated.ensures
    (step c.push_repeated.new.out (framed colour (codes " = ")) r3 c.in_ok-push_framed.ensures
    (step c.push_framed.new.out (codes "help: ") r4 c.in_ok-push.ensures
    (step c.push.new.out (shown c.args.help.now) r5 c.in_ok-push_text.ensures e)))) c.push-2.ensures
