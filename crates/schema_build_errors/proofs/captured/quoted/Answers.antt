use Rattle.std.proofs.Common.{◌++◌, ap, ◌∙◌}
use Rattle.std.specs.Str.{chars}
use Rattle.std.proofs.lemmas.Str.{chars-encodes}
use Rattle.schema_syntax_tokens.specs.Quotes.{quoted}
use Rattle.schema_build_errors.proofs.captured.quoted.Goals as goal

pub returns : goal.returns
returns c =
    let word = c.args.text.now in
    c.in_ok-push_quoted.ensures.ok
    ∙ ap (λ t. t ++ chars (quoted (chars c.as_str.result.now))) c.new-string.ensures
    ∙ ap (λ v. chars (quoted v)) (ap chars c.as_str.ensures.bytes ∙ chars-encodes word c.as_str.ensures.characters)
