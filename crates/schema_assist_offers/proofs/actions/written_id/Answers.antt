use Rattle.std.proofs.Common.{sym, ap, ◌∙◌, ◌++◌}
use Rattle.std.specs.Str.{chars}
use Rattle.schema_syntax_tokens.specs.Quotes.{quoted}
use Rattle.schema_assist_offers.proofs.Homely.{quoted_id, bare_copy}
use Rattle.schema_assist_offers.proofs.actions.written_id.Goals as goal

pub returns-then-is_bare : goal.returns-then-is_bare
returns-then-is_bare c =
    bare_copy c.args.id.now c.clone_in.result (sym c.requires ∙ c.if-is_bare.true) c.clone_in.ensures

pub returns : goal.returns
returns c =
    quoted_id c.args.id.now c.as_str.result.now c.push_quoted.new.text (sym c.requires ∙ c.if-is_bare.false)
    c.as_str.ensures.characters c.as_str.ensures.bytes
    (c.in_ok-push_quoted.ensures.ok ∙ ap (λ t. t ++ chars (quoted (chars c.as_str.result.now))) c.new-text.ensures)
