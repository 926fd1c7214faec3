use Rattle.std.proofs.Common.{◌++◌, codes, string_bytes}
use Rattle.std.proofs.lemmas.Result.{on_ok_weaker}
use Rattle.json.specs.Print.{escape_byte, quoted}
use Rattle.schema_report.proofs.Chains.{step}
use Rattle.schema_report_sarif.specs.Uris.{path_uri}
use Rattle.schema_report_sarif.proofs.regions.push_artifact.Goals as goal

pub returns : goal.returns
unfolding escape_byte
returns c =
    let r3 = codes "}" in
    let r2 = quoted (path_uri c.args.path.now) ++ r3 in
    on_ok_weaker c.push-2.result (λ e. step (string_bytes c.args.out.now) (codes "{\"uri\":") r2 c.in_ok-push.ensures
    (step (string_bytes c.push.new.out) (quoted (path_uri c.args.path.now)) r3 c.in_ok-push_uri.ensures e))
    c.push-2.ensures
