use Rattle.std.proofs.Common.{◌++◌, ap, ◌∙◌}
use Rattle.std.specs.Str.{chars}
use Rattle.std.proofs.lemmas.Result.{on_ok_weaker}
use Rattle.std.proofs.lemmas.Str.{chars-encodes}
use Rattle.schema_syntax_tokens.specs.Quotes.{quoted}
use Rattle.schema_inclusion_shown.proofs.keys.push_string.Goals as goal

pub returns : goal.returns
returns c = on_ok_weaker c.push_quoted.result
    (λ e. record {
      grown = e ∙ ap (λ t. c.args.text.now ++ chars (quoted t))
          (ap chars c.as_str.ensures.bytes ∙ chars-encodes c.args.value.now c.as_str.ensures.characters);
    })
    c.push_quoted.ensures.ok
