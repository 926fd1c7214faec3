use Rattle.std.proofs.Common.{ap, sym, ◌∙◌}
use Rattle.schema_build_recovered.proofs.Entities.{open_lacking}
use Rattle.schema_build_recovered.proofs.entity_types.recovered_kind.Goals as goal

pub returns-then-more-clause-lack : goal.returns-then-more-clause-lack
returns-then-more-clause-lack c =
    open_lacking c.args.entry.now c.in-Standard.attributes c.in-Standard.more c.in-Standard.tags
    (ap (λ e. e.1.kind) (sym c.entry.view_is) ∙ c.in-Standard.is)
    c.if-more.true
