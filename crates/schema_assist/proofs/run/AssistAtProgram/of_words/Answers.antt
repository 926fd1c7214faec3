use Rattle.std.proofs.Common.{◌≡◌, ap, sym, ◌∙◌, [], ◌∷◌}
use Rattle.std.specs.Prelude.{map, codes}
use Rattle.std.specs.String.{string_bytes}
use Rattle.std.proofs.lemmas.Result.{IfOk-weaker}
use Rattle.std.proofs.lemmas.Slice.Eq.{bytes_eq-Decides}
use Rattle.schema_assist.proofs.Plans.{asked_at, two_words}
use Rattle.schema_assist.proofs.run.AssistAtProgram.of_words.Goals as goal

pub returns-then-eq : goal.returns-then-eq
returns-then-eq c =
    let words = c.args.words.now in
    let first = c.first-item.result in
    let second = c.word-item.result in
    let at : string_bytes first ≡ codes "at" =
    sym c.as_str.ensures.value
    ∙ (bytes_eq-Decides c.as_str.result.now (codes "at")).0 (sym c.eq.ensures ∙ c.if-eq.true)
    in
    let are : map string_bytes words ≡ codes "at" ∷ c.as_str-then-eq.result.now ∷ [] =
    ap (map string_bytes)
    (two_words words first second c.in-len2.len_at_least c.in-len2.len_below c.first-item.is c.word-item.is)
    ∙ (λ i. at i ∷ sym c.as_str-then-eq.ensures.value i ∷ [])
    in
    IfOk-weaker c.command_at.result _ _ (λ found h.
    asked_at (map string_bytes words) c.as_str-then-eq.result.now found are h) c.command_at.ensures
