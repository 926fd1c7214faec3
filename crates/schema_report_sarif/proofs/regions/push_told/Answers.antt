use Rattle.std.proofs.Common.{◌++◌, codes, string_bytes}
use Rattle.std.proofs.lemmas.Result.{on_ok_weaker}
use Rattle.json.specs.Print.{escape_byte}
use Rattle.serde_json.specs.Written.{compact_text}
use Rattle.schema_report.proofs.Chains.{step}
use Rattle.schema_report_sarif.specs.Sarif.{message_value, physical_value}
use Rattle.schema_report_sarif.proofs.regions.push_told.Goals as goal

pub returns : goal.returns
unfolding escape_byte
returns c =
    let r5 = codes "}" in
    let r4 = compact_text (physical_value c.args.path.now c.args.place.now) ++ r5 in
    let r3 = codes ",\"physicalLocation\":" ++ r4 in
    let r2 = compact_text (message_value c.args.text.now) ++ r3 in
    on_ok_weaker c.push-3.result (λ e. step (string_bytes c.args.out.now) (codes "{\"message\":") r2
    c.in_ok-push.ensures
    (step (string_bytes c.push.new.out) (compact_text (message_value c.args.text.now)) r3 c.in_ok-push_message.ensures
    (step (string_bytes c.push_message.new.out) (codes ",\"physicalLocation\":") r4 c.in_ok-push-2.ensures
    (step (string_bytes c.push-2.new.out) (compact_text (physical_value c.args.path.now c.args.place.now)) r5
    c.in_ok-push_physical.ensures e)))) c.push-3.ensures
