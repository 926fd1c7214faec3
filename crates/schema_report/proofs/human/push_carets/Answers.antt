use Rattle.std.proofs.Common.{◌++◌, codes, replicate}
use Rattle.std.proofs.lemmas.Result.{on_ok_weaker}
use Rattle.schema_report.specs.Human.{coloured, severity_code, said_at, last_line}
use Rattle.schema_report.proofs.Chains.{step}
use Rattle.schema_report.proofs.human.push_carets.Goals as goal

pub returns : goal.returns
returns c =
    let colour = c.args.frame.colour in
    let place = c.args.place.now in
    let r6 = codes "\n" in
    let r5 = coloured colour (codes "[0m") ++ r6 in
    let r4 = last_line place ++ r5 in
    let r3 = said_at place.text ++ r4 in
    let r2 = replicate c.args.count 94 ++ r3 in
    on_ok_weaker c.push.result (λ e. step c.args.out.now (coloured colour (severity_code c.args.frame.severity)) r2
    c.in_ok-push_severity_code.ensures
    (step c.push_severity_code.new.out (replicate c.args.count 94) r3 c.in_ok-push_repeated.ensures
    (step c.push_repeated.new.out (said_at place.text) r4 c.in_ok-push_said.ensures
    (step c.push_said.new.out (last_line place) r5 c.in_ok-push_last_line.ensures
    (step c.push_last_line.new.out (coloured colour (codes "[0m")) r6 c.in_ok-push_code.ensures e))))) c.push.ensures
