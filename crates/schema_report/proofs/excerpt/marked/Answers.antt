use Rattle.std.proofs.Common.{◌-◌, drop, take, ◌≡◌, ◌∙◌}
use Rattle.std.specs.Str.{chars}
use Rattle.schema_report.specs.Human.{skipped, window}
use Rattle.schema_report.proofs.excerpt.marked.Goals as goal

pub returns : goal.returns
returns c =
    let place = c.args.place.now in
    let rest : chars c.past_chars-rest.result.now
    ≡ drop (place.start.column - skipped place) (window (chars c.args.line.now) place) =
    c.past_chars-rest.ensures.rest
    ∙ (λ i. drop (place.start.column - c.skipped.ensures i) (c.window.ensures i)) in
    c.front_chars.ensures ∙ (λ i. take (c.mark_len.ensures i) (rest i))
