use Rattle.std.proofs.Common.{◌≡◌, ap, sym, ◌∙◌, ◌∷◌, true, false}
use Rattle.std.specs.Prelude.{map}
use Rattle.std.specs.String.{string_bytes}
use Rattle.std.proofs.lemmas.Result.{IfOk-weaker}
use Rattle.std.proofs.lemmas.Slice.Eq.{bytes_eq-Decides}
use Rattle.cedar_schema_core.proofs.OneTable.{found_for_names, not_false}
use Rattle.cedar_schema_core.proofs.Words.{split_words}
use Rattle.cedar_schema_core.proofs.tables.table_of_words.Goals as goal

pub returns : goal.returns
returns c =
    let words = map string_bytes c.args.words.now in
    let names = map string_bytes c.in-Some.names.now in
    let with = c.args.with.now in
    let same : c.as_str.result.now ≡ with =
    (bytes_eq-Decides c.as_str.result.now with).0 (not_false _ (sym c.ne.ensures ∙ c.if-ne.false)) in
    let is : words ≡ with ∷ names =
    split_words c.args.words.now c.in-Some.names.now c.in-Some.first.now c.as_str.result.now c.in-Some.ensures.cases
    c.as_str.ensures.value ∙ ap (λ w. w ∷ names) same in
    IfOk-weaker c.table_of_names.result _ _ (λ found h.
    found_for_names c.args.plain.now with words
    (λ e. let both : true ≡ false = sym (c.says_alone.ensures.1 e) ∙ c.if-says_alone.false in cc)
    names is found h) c.table_of_names.ensures
