use Rattle.std.proofs.Common.{ap, ◌∙◌}
use Rattle.std.specs.Str.{bytes_eq, encode_utf8_all}
use Rattle.cedar_identifiers.proofs.Normal.{joined_bytes}
use Rattle.cedar_identifiers.proofs.name_reader.is_text_of.Goals as goal

pub returns : goal.returns
returns c =
    c.eq.ensures ∙ ap (λ s. bytes_eq s c.args.text.now)
    (c.as_str.ensures.bytes ∙ (ap encode_utf8_all c.in_ok-spelled.ensures.text
    ∙ joined_bytes c.args.name.now.first c.args.name.now.others))
