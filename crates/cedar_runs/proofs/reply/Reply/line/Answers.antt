use Rattle.std.proofs.Common.{ap, ◌∙◌, ◌≡◌, []}
use Rattle.std.specs.Str.{encode_utf8_all}
use Rattle.std.proofs.lemmas.Str.{encodes-chars}
use Rattle.cedar_runs.proofs.reply.Reply.line.Goals as goal

pub returns : goal.returns
returns c =
    let none : encode_utf8_all c.new.result ≡ [] = ap encode_utf8_all c.new.ensures in
    let same : encode_utf8_all c.in_ok-from_str.field-0
    ≡ c.args.line.now = ap encode_utf8_all c.in_ok-from_str.ensures ∙ encodes-chars c.args.line.now c.utf8.line in
    λ i. record { status = c.args.status; out = none i; err = same i }
