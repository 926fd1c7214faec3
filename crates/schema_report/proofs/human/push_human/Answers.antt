use Rattle.std.proofs.Common.{◌++◌, ap, ◌∙◌}
use Rattle.std.proofs.lemmas.Result.{on_ok_weaker}
use Rattle.std.specs.Str.{chars}
use Rattle.schema_report.specs.Human.{head_line, place_blocks, help_lines, gutter_of}
use Rattle.schema_report.proofs.Chains.{step}
use Rattle.schema_report.proofs.human.push_human.Goals as goal

pub returns : goal.returns
returns c =
    let colour = c.args.colour in
    let report = c.args.report.now in
    let path = chars c.args.path.now in
    let lines = c.args.lines.now in
    let places = c.as_slice-places.ensures in
    let gutter = c.gutter_of.ensures ∙ ap gutter_of places in
    let r3 = help_lines colour (gutter_of report.places) report.help in
    let r2 = place_blocks colour (gutter_of report.places) report.severity path lines report.places ++ r3 in
    on_ok_weaker c.push_help.result (λ e. step c.args.out.now (head_line colour report) r2 c.in_ok-push_head.ensures
    (step c.push_head.new.out (place_blocks colour (gutter_of report.places) report.severity path lines
    report.places) r3 (c.in_ok-push_blocks.ensures ∙ (λ i. c.push_head.new.out ++ place_blocks colour (gutter i)
    report.severity path lines (places i))) (e ∙ ap (λ g. c.push_blocks.new.out ++ help_lines colour g
    report.help) gutter))) c.push_help.ensures
