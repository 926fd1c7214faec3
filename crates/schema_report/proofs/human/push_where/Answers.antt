use Rattle.std.proofs.Common.{◌++◌, codes}
use Rattle.std.proofs.lemmas.Result.{on_ok_weaker}
use Rattle.std.specs.Str.{chars}
use Rattle.schema_report.specs.Human.{space_row, framed}
use Rattle.schema_report.specs.Short.{shown, line_and_column}
use Rattle.schema_report.proofs.Chains.{step}
use Rattle.schema_report.proofs.human.push_where.Goals as goal

pub returns : goal.returns
returns c =
    let colour = c.args.frame.colour in
    let gutter = c.args.frame.gutter in
    let r5 = codes "\n" in
    let r4 = line_and_column c.args.place.now ++ r5 in
    let r3 = shown (chars c.args.path.now) ++ r4 in
    let r2 = framed colour c.args.arrow.now ++ r3 in
    on_ok_weaker c.push.result (λ e. step c.args.out.now (space_row gutter) r2 c.in_ok-push_repeated.ensures
    (step c.push_repeated.new.out (framed colour c.args.arrow.now) r3 c.in_ok-push_framed.ensures
    (step c.push_framed.new.out (shown (chars c.args.path.now)) r4 c.in_ok-push_escaped.ensures
    (step c.push_escaped.new.out (line_and_column c.args.place.now) r5 c.in_ok-push_line_and_column.ensures e))))
    c.push.ensures
