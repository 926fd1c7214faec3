use Rattle.std.proofs.Common.{◌≡◌, ap, sym, ◌∙◌, [], ◌∷◌}
use Rattle.std.specs.Prelude.{map}
use Rattle.std.specs.String.{string_bytes}
use Rattle.std.proofs.lemmas.Slice.Eq.{bytes_eq-Decides}
use Rattle.cedar_schema_core.proofs.Words.{one_word}
use Rattle.cedar_schema_core.proofs.tables.says_alone.Goals as goal

pub returns : goal.returns
returns c =
    let word = c.args.word.now in
    let only = string_bytes c.only-item.result in
    let whole : map string_bytes c.args.words.now ≡ only ∷ [] =
    ap (map string_bytes)
    (one_word c.args.words.now c.only-item.result c.in-len1.len_at_least c.in-len1.len_below c.only-item.is) in
    let decides = bytes_eq-Decides c.as_str.result.now word in (
      (λ t. whole ∙ ap (λ w. w ∷ []) (sym c.as_str.ensures.value ∙ decides.0 (sym c.eq.ensures ∙ t))),
      (λ e. let all : only ∷ [] ≡ word ∷ [] = sym whole ∙ e in
          let same : only ≡ word = cc in
          c.eq.ensures ∙ decides.1 (c.as_str.ensures.value ∙ same)),
    )
