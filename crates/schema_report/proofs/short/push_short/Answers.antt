use Rattle.std.proofs.Common.{◌++◌, codes, ap, ◌∙◌}
use Rattle.std.proofs.lemmas.Result.{on_ok_weaker}
use Rattle.std.specs.Str.{chars}
use Rattle.schema_report.specs.Short.{shown, place_words, severity_word, rule_words}
use Rattle.schema_report.proofs.Chains.{step}
use Rattle.schema_report.proofs.short.push_short.Goals as goal

pub returns : goal.returns
returns c =
    let report = c.args.report.now in
    let r8 = codes "\n" in
    let r7 = shown report.message ++ r8 in
    let r6 = codes ": " ++ r7 in
    let r5 = rule_words report.rule ++ r6 in
    let r4 = severity_word report.severity ++ r5 in
    let r3 = codes ": " ++ r4 in
    let r2 = place_words report.places ++ r3 in
    on_ok_weaker c.push-3.result (λ e. step c.args.out.now (shown (chars c.args.path.now)) r2
    c.in_ok-push_escaped.ensures
    (step c.push_escaped.new.out (place_words report.places) r3 (c.in_ok-push_place.ensures ∙ ap (λ ps.
    c.push_escaped.new.out ++ place_words ps) c.as_slice.ensures)
    (step c.push_place.new.out (codes ": ") r4 c.in_ok-push.ensures
    (step c.push.new.out (severity_word report.severity) r5 c.in_ok-push_severity.ensures
    (step c.push_severity.new.out (rule_words report.rule) r6 c.in_ok-push_rule.ensures
    (step c.push_rule.new.out (codes ": ") r7 c.in_ok-push-2.ensures
    (step c.push-2.new.out (shown report.message) r8 c.in_ok-push_text.ensures e))))))) c.push-3.ensures
