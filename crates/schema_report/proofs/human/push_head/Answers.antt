use Rattle.std.proofs.Common.{◌++◌, codes}
use Rattle.std.proofs.lemmas.Result.{on_ok_weaker}
use Rattle.schema_report.specs.Human.{coloured, severity_code}
use Rattle.schema_report.specs.Short.{shown, severity_word, rule_words}
use Rattle.schema_report.proofs.Chains.{step}
use Rattle.schema_report.proofs.human.push_head.Goals as goal

pub returns : goal.returns
returns c =
    let colour = c.args.colour in
    let report = c.args.report.now in
    let r9 = codes "\n" in
    let r8 = coloured colour (codes "[0m") ++ r9 in
    let r7 = shown report.message ++ r8 in
    let r6 = codes ": " ++ r7 in
    let r5 = coloured colour (codes "[1m") ++ r6 in
    let r4 = coloured colour (codes "[0m") ++ r5 in
    let r3 = rule_words report.rule ++ r4 in
    let r2 = severity_word report.severity ++ r3 in
    on_ok_weaker c.push-2.result (λ e. step c.args.out.now (coloured colour (severity_code report.severity)) r2
    c.in_ok-push_severity_code.ensures
    (step c.push_severity_code.new.out (severity_word report.severity) r3 c.in_ok-push_severity.ensures
    (step c.push_severity.new.out (rule_words report.rule) r4 c.in_ok-push_rule.ensures
    (step c.push_rule.new.out (coloured colour (codes "[0m")) r5 c.in_ok-push_code.ensures
    (step c.push_code.new.out (coloured colour (codes "[1m")) r6 c.in_ok-push_code-2.ensures
    (step c.push_code-2.new.out (codes ": ") r7 c.in_ok-push.ensures
    (step c.push.new.out (shown report.message) r8 c.in_ok-push_text.ensures
    (step c.push_text.new.out (coloured colour (codes "[0m")) r9 c.in_ok-push_code-3.ensures e)))))))) c.push-2.ensures
