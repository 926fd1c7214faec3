use Rattle.std.proofs.Common.{◌∙◌, ap}
use Rattle.std.specs.Prelude.{max}
use Rattle.cedar_data.specs.Span.{Span}
use Rattle.schema_syntax_tokens.proofs.token.place_from.Goals as goal

pub returns : goal.returns
returns c =
    let start = ap (λ (s : Span). s.start) (c.place.view_is ∙ c.loc-place.ensures) in
    let end = c.max.ensures ∙ (λ i. max (start i) (c.last_end-end.ensures i)) in
    c.new.ensures ∙ (λ i. record { start = start i; end = end i })
