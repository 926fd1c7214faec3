use Rattle.std.proofs.Common.{◌≡◌, ap, sym, ◌∙◌, [], ◌∷◌}
use Rattle.std.specs.Prelude.{map, codes}
use Rattle.std.specs.String.{string_bytes}
use Rattle.std.proofs.lemmas.Slice.Eq.{bytes_eq-Decides}
use Rattle.schema_layout.proofs.Plans.{one_word}
use Rattle.schema_layout.proofs.run.LayOutProgram.of_words.Goals as goal

pub returns-then-eq : goal.returns-then-eq
returns-then-eq c =
    let word = c.word-item.result in
    let same : string_bytes word ≡ codes "layout" =
    sym c.as_str.ensures.value
    ∙ (bytes_eq-Decides c.as_str.result.now (codes "layout")).0 (sym c.eq.ensures ∙ c.if-eq.true)
    in
    ap (map string_bytes) (one_word c.args.words.now word c.in-len1.len_at_least c.in-len1.len_below c.word-item.is)
    ∙ ap (λ w. w ∷ []) same
