use Rattle.std.proofs.Common.{◌++◌, [], ◌∷◌}
use Rattle.std.proofs.lemmas.Result.{on_ok_weaker}
use Rattle.schema_report.specs.TokenHelps.{digit_at, high_digit}
use Rattle.schema_report.proofs.Chains.{step}
use Rattle.schema_report.proofs.token_helps.push_code_point.Goals as goal

pub returns : goal.returns
returns c =
    let code = c.args.code in
    let r6 = digit_at code 1 ∷ [] in
    let r5 = digit_at code 0x10 ∷ [] ++ r6 in
    let r4 = digit_at code 0x100 ∷ [] ++ r5 in
    let r3 = digit_at code 0x1000 ∷ [] ++ r4 in
    let r2 = high_digit code 0x1_0000 ++ r3 in
    on_ok_weaker c.push_digit-4.result (λ e. step c.args.out.now (high_digit code 0x10_0000) r2
    c.in_ok-push_high.ensures
    (step c.push_high.new.out (high_digit code 0x1_0000) r3 c.in_ok-push_high-2.ensures
    (step c.push_high-2.new.out (digit_at code 0x1000 ∷ []) r4 c.in_ok-push_digit.ensures
    (step c.push_digit.new.out (digit_at code 0x100 ∷ []) r5 c.in_ok-push_digit-2.ensures
    (step c.push_digit-2.new.out (digit_at code 0x10 ∷ []) r6 c.in_ok-push_digit-3.ensures e)))))
    c.push_digit-4.ensures
