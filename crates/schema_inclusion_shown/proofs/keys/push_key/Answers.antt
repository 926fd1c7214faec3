use Rattle.std.proofs.Common.{Bool, ap, sym, ◌∙◌, if◌then◌else◌}
use Rattle.std.specs.Str.{chars}
use Rattle.std.proofs.lemmas.Result.{on_ok_weaker}
use Rattle.schema_syntax_tokens.specs.Quotes.{quoted}
use Rattle.schema_inclusion_shown.proofs.Growing.{so}
use Rattle.schema_inclusion_shown.proofs.keys.push_key.Goals as goal

pub returns-then-is_bare : goal.returns-then-is_bare
returns-then-is_bare c = on_ok_weaker c.push_text.result
    (λ e. so e (ap (λ (b : Bool). if b then c.args.name.now else chars (quoted c.args.name.now))
    (sym (sym c.is_bare.ensures ∙ c.if-is_bare.true)))) c.push_text.ensures

pub returns-else-is_bare : goal.returns-else-is_bare
returns-else-is_bare c = on_ok_weaker c.push_string.result
    (λ e. so e (ap (λ (b : Bool). if b then c.args.name.now else chars (quoted c.args.name.now))
    (sym (sym c.is_bare.ensures ∙ c.if-is_bare.false)))) c.push_string.ensures
