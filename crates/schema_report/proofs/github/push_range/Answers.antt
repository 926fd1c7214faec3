use Rattle.std.proofs.Common.{◌++◌, codes, ◌+◌, decimal}
use Rattle.std.proofs.lemmas.Result.{on_ok_weaker}
use Rattle.schema_report.proofs.Chains.{step}
use Rattle.schema_report.proofs.github.push_range.Goals as goal

pub returns : goal.returns
returns c =
    let start = c.args.start.now in
    let end = c.args.end.now in
    let r8 = decimal (end.column + 1) in
    let r7 = codes ",endColumn=" ++ r8 in
    let r6 = decimal (end.line + 1) ++ r7 in
    let r5 = codes ",endLine=" ++ r6 in
    let r4 = decimal (start.column + 1) ++ r5 in
    let r3 = codes ",col=" ++ r4 in
    let r2 = decimal (start.line + 1) ++ r3 in
    on_ok_weaker c.push_from_one-4.result (λ e. step c.args.out.now (codes ",line=") r2 c.in_ok-push.ensures
    (step c.push.new.out (decimal (start.line + 1)) r3 c.in_ok-push_from_one.ensures
    (step c.push_from_one.new.out (codes ",col=") r4 c.in_ok-push-2.ensures
    (step c.push-2.new.out (decimal (start.column + 1)) r5 c.in_ok-push_from_one-2.ensures
    (step c.push_from_one-2.new.out (codes ",endLine=") r6 c.in_ok-push-3.ensures
    (step c.push-3.new.out (decimal (end.line + 1)) r7 c.in_ok-push_from_one-3.ensures
    (step c.push_from_one-3.new.out (codes ",endColumn=") r8 c.in_ok-push-4.ensures e))))))) c.push_from_one-4.ensures
