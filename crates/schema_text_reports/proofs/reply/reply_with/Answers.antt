use Rattle.std.proofs.Common.{◌∙◌, ap}
use Rattle.std.specs.Str.{encode_utf8_all}
use Rattle.std.proofs.lemmas.Str.{encodes-chars, IsUtf8-string_bytes}
use Rattle.schema_text_reports.proofs.reply.reply_with.Goals as goal

pub returns : goal.returns
returns c =
    let out = ap encode_utf8_all c.from_string.ensures ∙ (encodes-chars _ (IsUtf8-string_bytes c.in_ok-out.out)
    ∙ c.in_ok-out.ensures) in
    let err = ap encode_utf8_all c.new.ensures in
    λ i. record { status = c.status_of.ensures i; out = out i; err = err i }
