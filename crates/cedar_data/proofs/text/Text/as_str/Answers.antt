use Rattle.std.proofs.Common.{sym, ◌∙◌, ap}
use Rattle.std.specs.Str.{encode_utf8_all, all_scalars}
use Rattle.std.proofs.lemmas.Str.{encodes-chars, scalars-chars}
use Rattle.cedar_data.proofs.text.Text.as_str.Goals as goal

pub returns-clause-bytes : goal.returns-clause-bytes
returns-clause-bytes c = c.as_str.ensures.bytes
    ∙ sym (ap encode_utf8_all (sym c.self.view_is) ∙ encodes-chars _ c.as_str.ensures.text)

pub returns-clause-characters : goal.returns-clause-characters
returns-clause-characters c = ap all_scalars (sym c.self.view_is) ∙ scalars-chars _ c.as_str.ensures.text
