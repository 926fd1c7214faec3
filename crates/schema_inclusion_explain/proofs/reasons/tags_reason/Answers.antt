use Rattle.std.proofs.Common.{sym, ap, ◌∙◌}
use Rattle.std.specs.Option.{option_copied}
use Rattle.schema_inclusion_check.specs.Raw.{raw_meaning}
use Rattle.schema_inclusion_explain.proofs.Tagged.{tags_over}
use Rattle.schema_inclusion_explain.proofs.reasons.tags_reason.Goals as goal

pub returns-else-is_empty : goal.returns-else-is_empty
returns-else-is_empty c =
    tags_over (raw_meaning c.args.schema.now.entities.now c.args.schema.now.actions.now)
    (option_copied c.args.own) c.args.tags.now (ap option_copied c.in-None.is)
    (sym c.is_empty.ensures ∙ c.if-is_empty.false)
