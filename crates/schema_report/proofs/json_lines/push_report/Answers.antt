use Rattle.std.proofs.Common.{◌++◌, codes, ap, ◌∙◌, string_bytes}
use Rattle.std.proofs.lemmas.Result.{on_ok_weaker}
use Rattle.std.specs.Str.{encode_utf8_all}
use Rattle.json.specs.Print.{quoted}
use Rattle.schema_report.specs.Json.{optional_value, places_value, severity_value}
use Rattle.json.specs.Print.{escape_byte}
use Rattle.serde_json.specs.Written.{compact_text}
use Rattle.schema_report.proofs.Chains.{step}
use Rattle.schema_report.proofs.json_lines.push_report.Goals as goal

pub returns : goal.returns
unfolding escape_byte
returns c =
    let report = c.args.report.now in
    let r13 = codes "}" in
    let r12 = compact_text (severity_value report.severity) ++ r13 in
    let r11 = codes ",\"severity\":" ++ r12 in
    let r10 = compact_text (optional_value report.rule) ++ r11 in
    let r9 = codes ",\"rule\":" ++ r10 in
    let r8 = compact_text (places_value report.places) ++ r9 in
    let r7 = codes ",\"places\":" ++ r8 in
    let r6 = quoted c.args.path.now ++ r7 in
    let r5 = codes ",\"path\":" ++ r6 in
    let r4 = quoted (encode_utf8_all report.message) ++ r5 in
    let r3 = codes ",\"message\":" ++ r4 in
    let r2 = compact_text (optional_value report.help) ++ r3 in
    on_ok_weaker c.push-7.result (λ e. step (string_bytes c.args.out.now) (codes "{\"help\":") r2 c.in_ok-push.ensures
    (step (string_bytes c.push.new.out) (compact_text (optional_value report.help)) r3 c.in_ok-push_optional.ensures
    (step (string_bytes c.push_optional.new.out) (codes ",\"message\":") r4 c.in_ok-push-2.ensures
    (step (string_bytes c.push-2.new.out) (quoted (encode_utf8_all report.message)) r5 c.in_ok-push_text.ensures
    (step (string_bytes c.push_text.new.out) (codes ",\"path\":") r6 c.in_ok-push-3.ensures
    (step (string_bytes c.push-3.new.out) (quoted c.args.path.now) r7 c.in_ok-push_quoted.ensures
    (step (string_bytes c.push_quoted.new.out) (codes ",\"places\":") r8 c.in_ok-push-4.ensures
    (step (string_bytes c.push-4.new.out) (compact_text (places_value report.places)) r9
    (c.in_ok-push_places.ensures ∙ ap (λ ps. string_bytes c.push-4.new.out ++ compact_text (places_value ps))
    c.as_slice.ensures)
    (step (string_bytes c.push_places.new.out) (codes ",\"rule\":") r10 c.in_ok-push-5.ensures
    (step (string_bytes c.push-5.new.out) (compact_text (optional_value report.rule)) r11
    c.in_ok-push_optional-2.ensures
    (step (string_bytes c.push_optional-2.new.out) (codes ",\"severity\":") r12 c.in_ok-push-6.ensures
    (step (string_bytes c.push-6.new.out) (compact_text (severity_value report.severity)) r13
    c.in_ok-push_severity.ensures e)))))))))))) c.push-7.ensures
