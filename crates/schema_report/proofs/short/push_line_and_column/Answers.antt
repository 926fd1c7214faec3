use Rattle.std.proofs.Common.{◌++◌, codes, ◌+◌, decimal}
use Rattle.std.proofs.lemmas.Result.{on_ok_weaker}
use Rattle.schema_report.proofs.Chains.{step}
use Rattle.schema_report.proofs.short.push_line_and_column.Goals as goal

pub returns : goal.returns
returns c =
    let place = c.args.place.now in
    let r4 = decimal (place.column + 1) in
    let r3 = codes ":" ++ r4 in
    let r2 = decimal (place.line + 1) ++ r3 in
    on_ok_weaker c.push_from_one-2.result (λ e. step c.args.out.now (codes ":") r2 c.in_ok-push.ensures
    (step c.push.new.out (decimal (place.line + 1)) r3 c.in_ok-push_from_one.ensures
    (step c.push_from_one.new.out (codes ":") r4 c.in_ok-push-2.ensures e))) c.push_from_one-2.ensures
