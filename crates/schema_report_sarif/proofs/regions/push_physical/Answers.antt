use Rattle.std.proofs.Common.{◌++◌, codes, string_bytes}
use Rattle.std.proofs.lemmas.Result.{on_ok_weaker}
use Rattle.json.specs.Print.{escape_byte}
use Rattle.serde_json.specs.Written.{compact_text}
use Rattle.schema_report.proofs.Chains.{step}
use Rattle.schema_report_sarif.specs.Sarif.{artifact_value, region_value}
use Rattle.schema_report_sarif.proofs.regions.push_physical.Goals as goal

pub returns : goal.returns
unfolding escape_byte
returns c =
    let r5 = codes "}" in
    let r4 = compact_text (region_value c.args.place.now.start c.args.place.now.end) ++ r5 in
    let r3 = codes ",\"region\":" ++ r4 in
    let r2 = compact_text (artifact_value c.args.path.now) ++ r3 in
    on_ok_weaker c.push-3.result (λ e. step (string_bytes c.args.out.now) (codes "{\"artifactLocation\":") r2
    c.in_ok-push.ensures
    (step (string_bytes c.push.new.out) (compact_text (artifact_value c.args.path.now)) r3 c.in_ok-push_artifact.ensures
    (step (string_bytes c.push_artifact.new.out) (codes ",\"region\":") r4 c.in_ok-push-2.ensures
    (step (string_bytes c.push-2.new.out) (compact_text (region_value c.args.place.now.start c.args.place.now.end)) r5
    c.in_ok-push_region.ensures e)))) c.push-3.ensures
