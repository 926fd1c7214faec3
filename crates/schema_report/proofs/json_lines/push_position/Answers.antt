use Rattle.std.proofs.Common.{◌++◌, codes, ◌+◌, decimal, string_bytes}
use Rattle.std.proofs.lemmas.Result.{on_ok_weaker}
use Rattle.json.specs.Print.{escape_byte}
use Rattle.schema_report.proofs.Chains.{step}
use Rattle.schema_report.proofs.json_lines.push_position.Goals as goal

pub returns : goal.returns
unfolding escape_byte
returns c =
    let place = c.args.place.now in
    let r9 = codes "}" in
    let r8 = decimal (place.utf16 + 1) ++ r9 in
    let r7 = codes ",\"utf16\":" ++ r8 in
    let r6 = decimal (place.line + 1) ++ r7 in
    let r5 = codes ",\"line\":" ++ r6 in
    let r4 = decimal (place.column + 1) ++ r5 in
    let r3 = codes ",\"column\":" ++ r4 in
    let r2 = decimal place.byte ++ r3 in
    on_ok_weaker c.push-5.result (λ e. step (string_bytes c.args.out.now) (codes "{\"byte\":") r2 c.in_ok-push.ensures
    (step (string_bytes c.push.new.out) (decimal place.byte) r3 c.in_ok-push_number.ensures
    (step (string_bytes c.push_number.new.out) (codes ",\"column\":") r4 c.in_ok-push-2.ensures
    (step (string_bytes c.push-2.new.out) (decimal (place.column + 1)) r5 c.in_ok-push_number-2.ensures
    (step (string_bytes c.push_number-2.new.out) (codes ",\"line\":") r6 c.in_ok-push-3.ensures
    (step (string_bytes c.push-3.new.out) (decimal (place.line + 1)) r7 c.in_ok-push_number-3.ensures
    (step (string_bytes c.push_number-3.new.out) (codes ",\"utf16\":") r8 c.in_ok-push-4.ensures
    (step (string_bytes c.push-4.new.out) (decimal (place.utf16 + 1)) r9 c.in_ok-push_number-4.ensures e))))))))
    c.push-5.ensures
