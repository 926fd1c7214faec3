use Rattle.std.proofs.Common.{◌++◌, codes, string_bytes}
use Rattle.std.proofs.lemmas.Result.{on_ok_weaker}
use Rattle.schema_report.specs.Json.{position_value, optional_value}
use Rattle.json.specs.Print.{escape_byte}
use Rattle.serde_json.specs.Written.{compact_text}
use Rattle.schema_report.proofs.Chains.{step}
use Rattle.schema_report.proofs.json_lines.push_place.Goals as goal

pub returns : goal.returns
unfolding escape_byte
returns c =
    let place = c.args.place.now in
    let r7 = codes "}" in
    let r6 = compact_text (optional_value place.text) ++ r7 in
    let r5 = codes ",\"text\":" ++ r6 in
    let r4 = compact_text (position_value place.start) ++ r5 in
    let r3 = codes ",\"start\":" ++ r4 in
    let r2 = compact_text (position_value place.end) ++ r3 in
    on_ok_weaker c.push-4.result (λ e. step (string_bytes c.args.out.now) (codes "{\"end\":") r2 c.in_ok-push.ensures
    (step (string_bytes c.push.new.out) (compact_text (position_value place.end)) r3 c.in_ok-push_position.ensures
    (step (string_bytes c.push_position.new.out) (codes ",\"start\":") r4 c.in_ok-push-2.ensures
    (step (string_bytes c.push-2.new.out) (compact_text (position_value place.start)) r5
    c.in_ok-push_position-2.ensures
    (step (string_bytes c.push_position-2.new.out) (codes ",\"text\":") r6 c.in_ok-push-3.ensures
    (step (string_bytes c.push-3.new.out) (compact_text (optional_value place.text)) r7
    c.in_ok-push_optional.ensures e)))))) c.push-4.ensures
