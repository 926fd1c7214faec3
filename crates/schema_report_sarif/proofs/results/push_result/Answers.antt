use Rattle.std.proofs.Common.{◌++◌, codes, string_bytes, true, ap, ◌∙◌}
use Rattle.std.proofs.lemmas.Result.{on_ok_weaker}
use Rattle.json.specs.Print.{escape_byte}
use Rattle.serde_json.specs.Written.{compact_text, members_text}
use Rattle.schema_report.proofs.Chains.{step}
use Rattle.schema_report.specs.Json.{severity_value}
use Rattle.schema_report_sarif.specs.Sarif.{locations_value, said_value, related_value, rule_member}
use Rattle.schema_report_sarif.proofs.results.push_result.Goals as goal

pub returns : goal.returns
unfolding escape_byte
returns c =
    let r9 = members_text true (rule_member c.args.report.now.rule) in
    let r8 = compact_text (related_value c.args.path.now c.args.report.now.places) ++ r9 in
    let r7 = codes ",\"relatedLocations\":" ++ r8 in
    let r6 = compact_text (said_value c.args.report.now.message c.args.report.now.help) ++ r7 in
    let r5 = codes ",\"message\":" ++ r6 in
    let r4 = compact_text (locations_value c.args.path.now c.args.report.now.places) ++ r5 in
    let r3 = codes ",\"locations\":" ++ r4 in
    let r2 = compact_text (severity_value c.args.report.now.severity) ++ r3 in
    on_ok_weaker c.push_rule.result (λ e. step (string_bytes c.args.out.now) (codes "{\"level\":") r2
    c.in_ok-push.ensures
    (step (string_bytes c.push.new.out) (compact_text (severity_value c.args.report.now.severity)) r3
    c.in_ok-push_severity.ensures
    (step (string_bytes c.push_severity.new.out) (codes ",\"locations\":") r4 c.in_ok-push-2.ensures
    (step (string_bytes c.push-2.new.out) (compact_text (locations_value c.args.path.now c.args.report.now.places)) r5
    (c.in_ok-push_locations.ensures ∙ ap (λ ps. string_bytes c.push-2.new.out ++ compact_text
    (locations_value c.args.path.now ps)) c.as_slice.ensures)
    (step (string_bytes c.push_locations.new.out) (codes ",\"message\":") r6 c.in_ok-push-3.ensures
    (step (string_bytes c.push-3.new.out) (compact_text (said_value c.args.report.now.message c.args.report.now.help))
    r7 c.in_ok-push_said.ensures
    (step (string_bytes c.push_said.new.out) (codes ",\"relatedLocations\":") r8 c.in_ok-push-4.ensures
    (step (string_bytes c.push-4.new.out) (compact_text (related_value c.args.path.now c.args.report.now.places)) r9
    (c.in_ok-push_related.ensures ∙ ap (λ ps. string_bytes c.push-4.new.out ++ compact_text
    (related_value c.args.path.now ps)) c.as_slice-2.ensures) e)))))))) c.push_rule.ensures
