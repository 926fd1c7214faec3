use Rattle.std.proofs.Common.{◌++◌, codes, string_bytes, ◌+◌, decimal}
use Rattle.std.proofs.lemmas.Result.{on_ok_weaker}
use Rattle.json.specs.Print.{escape_byte}
use Rattle.schema_report.proofs.Chains.{step}
use Rattle.schema_report_sarif.proofs.regions.push_region.Goals as goal

pub returns : goal.returns
unfolding escape_byte
returns c =
    let r9 = codes "}" in
    let r8 = decimal (c.args.start.now.line + 1) ++ r9 in
    let r7 = codes ",\"startLine\":" ++ r8 in
    let r6 = decimal (c.args.start.now.column + 1) ++ r7 in
    let r5 = codes ",\"startColumn\":" ++ r6 in
    let r4 = decimal (c.args.end.now.line + 1) ++ r5 in
    let r3 = codes ",\"endLine\":" ++ r4 in
    let r2 = decimal (c.args.end.now.column + 1) ++ r3 in
    on_ok_weaker c.push-5.result (λ e. step (string_bytes c.args.out.now) (codes "{\"endColumn\":") r2
    c.in_ok-push.ensures
    (step (string_bytes c.push.new.out) (decimal (c.args.end.now.column + 1)) r3 c.in_ok-push_from_one.ensures
    (step (string_bytes c.push_from_one.new.out) (codes ",\"endLine\":") r4 c.in_ok-push-2.ensures
    (step (string_bytes c.push-2.new.out) (decimal (c.args.end.now.line + 1)) r5 c.in_ok-push_from_one-2.ensures
    (step (string_bytes c.push_from_one-2.new.out) (codes ",\"startColumn\":") r6 c.in_ok-push-3.ensures
    (step (string_bytes c.push-3.new.out) (decimal (c.args.start.now.column + 1)) r7 c.in_ok-push_from_one-3.ensures
    (step (string_bytes c.push_from_one-3.new.out) (codes ",\"startLine\":") r8 c.in_ok-push-4.ensures
    (step (string_bytes c.push-4.new.out) (decimal (c.args.start.now.line + 1)) r9 c.in_ok-push_from_one-4.ensures
    e)))))))) c.push-5.ensures
