use Rattle.std.proofs.Common.{ap, sym, ◌∙◌}
use Rattle.std.specs.List.{list_all}
use Rattle.std.specs.Str.{chars}
use Rattle.std.proofs.lemmas.Result.{on_ok_weaker}
use Rattle.std.proofs.lemmas.Str.{chars-encodes}
use Rattle.schema_syntax_tokens.specs.Quotes.{quoted}
use Rattle.schema_build_text.specs.Growing.{so}
use Rattle.schema_build_text.specs.Strings.{is_plain}
use Rattle.schema_build_text.proofs.Strings.{string_plain}
use Rattle.schema_build_text.proofs.pushing.push_string.Goals as goal

pub returns-then-are_plain : goal.returns-then-are_plain
returns-then-are_plain c =
    on_ok_weaker c.push_between_quotes.result
    (λ e. so e (string_plain c.args.value.now c.as_str-value.result.now c.as_str-value.ensures.bytes
    c.as_str-value.ensures.characters
    (ap (list_all is_plain) (sym c.as_bytes.ensures.value) ∙ (sym c.are_plain.ensures ∙ c.if-are_plain.true))))
    c.push_between_quotes.ensures

pub returns-else-are_plain : goal.returns-else-are_plain
returns-else-are_plain c =
    on_ok_weaker c.push_escaped.result
    (λ e. so e (ap quoted (ap chars c.as_str-value.ensures.bytes
    ∙ chars-encodes c.args.value.now c.as_str-value.ensures.characters))) c.push_escaped.ensures
