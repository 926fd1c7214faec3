use Rattle.std.proofs.Common.{◌++◌, codes, string_bytes}
use Rattle.std.proofs.lemmas.Result.{on_ok_weaker}
use Rattle.json.specs.Print.{escape_byte}
use Rattle.serde_json.specs.Written.{compact_text}
use Rattle.schema_report.proofs.Chains.{step}
use Rattle.schema_report_sarif.specs.Sarif.{runs_value}
use Rattle.schema_report_sarif.proofs.sarif.push_sarif.Goals as goal

pub returns : goal.returns
unfolding escape_byte
returns c =
    let r3 = codes ",\"version\":\"2.1.0\"}" in
    let r2 = compact_text (runs_value c.args.version.now c.args.found.now) ++ r3 in
    on_ok_weaker c.push-2.result (λ e. step (string_bytes c.args.out.now) (codes
    "{\"$schema\":\"https://json.schemastore.org/sarif-2.1.0.json\",\"runs\":") r2 c.in_ok-push.ensures
    (step (string_bytes c.push.new.out) (compact_text (runs_value c.args.version.now c.args.found.now)) r3
    c.in_ok-push_runs.ensures e)) c.push-2.ensures
