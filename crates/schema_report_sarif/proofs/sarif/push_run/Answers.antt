use Rattle.std.proofs.Common.{◌++◌, codes, string_bytes}
use Rattle.std.proofs.lemmas.Result.{on_ok_weaker}
use Rattle.json.specs.Print.{escape_byte}
use Rattle.serde_json.specs.Written.{compact_text}
use Rattle.schema_report.proofs.Chains.{step}
use Rattle.schema_report_sarif.specs.Sarif.{results_value, tool_value}
use Rattle.schema_report_sarif.proofs.sarif.push_run.Goals as goal

pub returns : goal.returns
unfolding escape_byte
returns c =
    let r5 = codes "}" in
    let r4 = compact_text (tool_value c.args.version.now) ++ r5 in
    let r3 = codes ",\"tool\":" ++ r4 in
    let r2 = compact_text (results_value c.args.found.now) ++ r3 in
    on_ok_weaker c.push-3.result (λ e. step (string_bytes c.args.out.now) (codes
    "{\"columnKind\":\"unicodeCodePoints\",\"results\":") r2 c.in_ok-push.ensures
    (step (string_bytes c.push.new.out) (compact_text (results_value c.args.found.now)) r3 c.in_ok-push_results.ensures
    (step (string_bytes c.push_results.new.out) (codes ",\"tool\":") r4 c.in_ok-push-2.ensures
    (step (string_bytes c.push-2.new.out) (compact_text (tool_value c.args.version.now)) r5 c.in_ok-push_tool.ensures
    e)))) c.push-3.ensures
