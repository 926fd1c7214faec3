use Rattle.std.proofs.Common.{drop, ap, ◌∙◌}
use Rattle.std.specs.Str.{chars}
use Rattle.schema_report.proofs.excerpt.behind.Goals as goal

pub returns : goal.returns
returns c = c.past_chars-2.ensures.rest ∙ ap (drop 300) (c.past_chars.ensures.rest
    ∙ ap (λ n. drop n (chars c.args.line.now)) c.skipped.ensures)
