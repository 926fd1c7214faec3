use Rattle.std.proofs.Common.{take, drop, ap, ◌∙◌}
use Rattle.std.specs.Str.{chars}
use Rattle.schema_report.proofs.excerpt.window.Goals as goal

pub returns : goal.returns
returns c = c.front_chars.ensures ∙ ap (take 300) (c.past_chars.ensures.rest
    ∙ ap (λ n. drop n (chars c.args.line.now)) c.skipped.ensures)
