use Rattle.std.proofs.Common.{◌++◌, ap, ◌∙◌, max}
use Rattle.std.proofs.lemmas.Result.{on_ok_weaker}
use Rattle.std.specs.Str.{chars}
use Rattle.schema_report.specs.Human.{mark_indent, carets, columns_of, ahead_text, mark_text}
use Rattle.schema_report.proofs.Chains.{step}
use Rattle.schema_report.proofs.human.push_mark.Goals as goal

pub returns : goal.returns
returns c =
    let colour = c.args.frame.colour in
    let gutter = c.args.frame.gutter in
    let severity = c.args.frame.severity in
    let line = chars c.args.line.now in
    let place = c.args.place.now in
    let r2 = carets colour severity place (max (columns_of (mark_text line place)) 1) in
    on_ok_weaker c.push_carets.result (λ e. step c.args.out.now (mark_indent colour gutter place (columns_of
    (ahead_text line place))) r2 (c.in_ok-push_indent.ensures ∙ ap (λ n. c.args.out.now ++ mark_indent colour
    gutter place n) (c.in_ok-room.ensures ∙ ap columns_of c.ahead.ensures)) (e ∙ ap (λ n. c.push_indent.new.out ++
    carets colour severity place n) (c.max.ensures ∙ ap (λ n. max n 1) (c.in_ok-width.ensures ∙ ap columns_of
    c.marked.ensures)))) c.push_carets.ensures
