use Rattle.std.proofs.Common.{◌++◌, codes, ◌+◌, ◌-◌, decimal, length, ap, ◌∙◌}
use Rattle.std.proofs.lemmas.Result.{on_ok_weaker}
use Rattle.schema_report.specs.Human.{space_row, coloured}
use Rattle.schema_report.proofs.Chains.{step}
use Rattle.schema_report.proofs.human.push_line_number.Goals as goal

pub returns : goal.returns
returns c =
    let colour = c.args.frame.colour in
    let gutter = c.args.frame.gutter in
    let line = c.args.line in
    let r5 = coloured colour (codes "[0m") in
    let r4 = codes " | " ++ r5 in
    let r3 = decimal (line + 1) ++ r4 in
    let r2 = coloured colour (codes "[1;34m") ++ r3 in
    on_ok_weaker c.push_code-2.result (λ e. step c.args.out.now (space_row (gutter - length (decimal (line + 1))))
    r2 (c.in_ok-push_repeated.ensures ∙ ap (λ n. c.args.out.now ++ space_row n) c.number_room-room.ensures)
    (step c.push_repeated.new.out (coloured colour (codes "[1;34m")) r3 c.in_ok-push_code.ensures
    (step c.push_code.new.out (decimal (line + 1)) r4 c.in_ok-push_from_one.ensures
    (step c.push_from_one.new.out (codes " | ") r5 c.in_ok-push.ensures e)))) c.push_code-2.ensures
