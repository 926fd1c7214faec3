use Rattle.std.proofs.Common.{◌++◌, codes, string_bytes}
use Rattle.std.proofs.lemmas.Result.{on_ok_weaker}
use Rattle.json.specs.Print.{escape_byte, quoted}
use Rattle.schema_report.proofs.Chains.{step}
use Rattle.std.specs.Str.{encode_utf8_all}
use Rattle.schema_report_sarif.proofs.values.push_message.Goals as goal

pub returns : goal.returns
unfolding escape_byte
returns c =
    let r3 = codes "}" in
    let r2 = quoted (encode_utf8_all c.args.text.now) ++ r3 in
    on_ok_weaker c.push-2.result (λ e. step (string_bytes c.args.out.now) (codes "{\"text\":") r2 c.in_ok-push.ensures
    (step (string_bytes c.push.new.out) (quoted (encode_utf8_all c.args.text.now)) r3 c.in_ok-push_text.ensures e))
    c.push-2.ensures
