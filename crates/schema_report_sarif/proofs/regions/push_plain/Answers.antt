use Rattle.std.proofs.Common.{◌++◌, codes, string_bytes}
use Rattle.std.proofs.lemmas.Result.{on_ok_weaker}
use Rattle.json.specs.Print.{escape_byte}
use Rattle.serde_json.specs.Written.{compact_text}
use Rattle.schema_report.proofs.Chains.{step}
use Rattle.schema_report_sarif.specs.Sarif.{physical_value}
use Rattle.schema_report_sarif.proofs.regions.push_plain.Goals as goal

pub returns : goal.returns
unfolding escape_byte
returns c =
    let r3 = codes "}" in
    let r2 = compact_text (physical_value c.args.path.now c.args.place.now) ++ r3 in
    on_ok_weaker c.push-2.result (λ e. step (string_bytes c.args.out.now) (codes "{\"physicalLocation\":") r2
    c.in_ok-push.ensures
    (step (string_bytes c.push.new.out) (compact_text (physical_value c.args.path.now c.args.place.now)) r3
    c.in_ok-push_physical.ensures e)) c.push-2.ensures
