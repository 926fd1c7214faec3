use Rattle.std.proofs.Common.{[], ◌∷◌, ◌++◌, sym, ap, ◌∙◌}
use Rattle.std.proofs.lemmas.List.{nil_from_length}
use Rattle.schema_syntax_reader.proofs.paths.split_last.Goals as goal

pub returns-in-None : goal.returns-in-None
returns-in-None c =
    c.into_parts-first.ensures ∙ ap (λ l. c.into_parts-first.result.0 ∷ l)
    (nil_from_length _ (sym c.into_parts-first.result.1.ok.0 ∙ c.in-None.ensures.cases.0))

pub returns-in-Some : goal.returns-in-Some
returns-in-Some c =
    c.into_parts-first.ensures ∙ (ap (λ l. c.into_parts-first.result.0 ∷ l) c.in-Some.ensures.items
    ∙ ap (λ l. l ++ c.in-Some.last ∷ []) (sym c.from_parts.ensures))
