use Rattle.std.proofs.Common.{codes, string_bytes}
use Rattle.std.proofs.lemmas.Result.{on_ok_weaker}
use Rattle.schema_report.specs.Json.{report_value}
use Rattle.json.specs.Print.{escape_byte}
use Rattle.serde_json.specs.Written.{compact_text}
use Rattle.schema_report.proofs.Chains.{step}
use Rattle.schema_report.proofs.json_lines.push_json.Goals as goal

pub returns : goal.returns
unfolding escape_byte
returns c =
    let r2 = codes "\n" in
    on_ok_weaker c.push.result (λ e. step (string_bytes c.args.out.now) (compact_text (report_value c.args.path.now
    c.args.report.now)) r2 c.in_ok-push_report.ensures e) c.push.ensures
