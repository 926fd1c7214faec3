use Rattle.std.proofs.lemmas.Result.{on_ok_weaker}
use Rattle.std.specs.Str.{chars}
use Rattle.schema_report.specs.Human.{line_number, line_shown}
use Rattle.schema_report.proofs.Chains.{step}
use Rattle.schema_report.proofs.human.push_line.Goals as goal

pub returns : goal.returns
returns c =
    let colour = c.args.frame.colour in
    let gutter = c.args.frame.gutter in
    let line = chars c.args.line.now in
    let place = c.args.place.now in
    let r2 = line_shown line place in
    on_ok_weaker c.push_line_shown.result (λ e. step c.args.out.now (line_number colour gutter place.start.line) r2
    c.in_ok-push_line_number.ensures e) c.push_line_shown.ensures
