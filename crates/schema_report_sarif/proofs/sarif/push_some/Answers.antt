use Rattle.std.proofs.Common.{◌++◌, codes, string_bytes}
use Rattle.std.proofs.lemmas.Result.{on_ok_weaker}
use Rattle.json.specs.Print.{escape_byte}
use Rattle.serde_json.specs.Written.{compact_text}
use Rattle.schema_report.proofs.Chains.{step}
use Rattle.std.specs.List.{flat_map}
use Rattle.schema_report_sarif.specs.Sarif.{found_value, later_result}
use Rattle.schema_report_sarif.proofs.sarif.push_some.Goals as goal

pub returns : goal.returns
unfolding escape_byte
returns c =
    let r4 = codes "]" in
    let r3 = flat_map later_result c.args.others.now ++ r4 in
    let r2 = compact_text (found_value c.args.first.now) ++ r3 in
    on_ok_weaker c.push-2.result (λ e. step (string_bytes c.args.out.now) (codes "[") r2 c.in_ok-push.ensures
    (step (string_bytes c.push.new.out) (compact_text (found_value c.args.first.now)) r3 c.in_ok-push_result.ensures
    (step (string_bytes c.push_result.new.out) (flat_map later_result c.args.others.now) r4
    c.in_ok-push_others.ensures e))) c.push-2.ensures
