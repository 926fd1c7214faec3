use Rattle.std.proofs.Common.{◌++◌, codes, drop, ap, ◌∙◌}
use Rattle.std.proofs.lemmas.Result.{on_ok_weaker}
use Rattle.std.specs.Str.{chars}
use Rattle.schema_report.specs.Human.{dots_for, skipped, window, dots}
use Rattle.schema_report.specs.Short.{shown}
use Rattle.schema_report.proofs.Chains.{step}
use Rattle.schema_report.proofs.human.push_line_shown.Goals as goal

pub returns : goal.returns
returns c =
    let line = chars c.args.line.now in
    let place = c.args.place.now in
    let r4 = codes "\n" in
    let r3 = dots (drop 300 (drop (skipped place) line)) ++ r4 in
    let r2 = shown (window line place) ++ r3 in
    on_ok_weaker c.push.result (λ e. step c.args.out.now (dots_for (skipped place)) r2
    (c.in_ok-push_dots_for.ensures ∙ ap (λ n. c.args.out.now ++ dots_for n) c.skipped.ensures)
    (step c.push_dots_for.new.out (shown (window line place)) r3 (c.in_ok-push_escaped.ensures ∙ ap (λ cs.
    c.push_dots_for.new.out ++ shown cs) c.window.ensures)
    (step c.push_escaped.new.out (dots (drop 300 (drop (skipped place) line))) r4 (c.in_ok-push_dots.ensures ∙ ap
    (λ cs. c.push_escaped.new.out ++ dots cs) c.behind.ensures) e))) c.push.ensures
