use Rattle.std.proofs.Common.{◌-◌, take, ◌∙◌}
use Rattle.schema_report.proofs.excerpt.ahead.Goals as goal

pub returns : goal.returns
returns c = c.front_chars.ensures
    ∙ (λ i. take (c.args.place.now.start.column - c.skipped.ensures i) (c.window.ensures i))
