use Rattle.std.proofs.Common.{◌∙◌, ap, sym}
use Rattle.cedar_data.specs.Span.{Span}
use Rattle.schema_syntax_tokens.specs.declared.token.Token.{Token}
use Rattle.schema_syntax_tokens.proofs.LastPlaces.{last_of}
use Rattle.schema_syntax_tokens.proofs.token.last_end.Goals as goal

pub returns-in-len1-up : goal.returns-in-len1-up
returns-in-len1-up c =
    ap (λ (s : Span). s.end) (c.last.view_is ∙ c.loc-last.ensures)
    ∙ (ap (λ (t : Token). t.loc.end) c.index-others-others.is
    ∙ sym (last_of c.args.first.now c.args.others.now c.index-others-others.result c.in-len1-up.len_at_least))
