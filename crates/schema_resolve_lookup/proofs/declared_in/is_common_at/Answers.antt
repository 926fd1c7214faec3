use Rattle.std.proofs.Common.{sym, ◌∙◌}
use Rattle.std.proofs.lemmas.List.Folds.{list_any_at}
use Rattle.std.specs.Str.{bytes_eq}
use Rattle.schema_resolve_lookup.proofs.declared_in.is_common_at.Goals as goal

pub returns : goal.returns
returns c = λ told.
    let word = c.args.word.now.text in
    list_any_at (λ e. bytes_eq word e.0.id.id.text) c.args.entries.now c.args.at c.index-entries-at.result
    c.if-at-entries.false
    ((λ i. bytes_eq (sym c.as_str.ensures i) (sym c.as_str-2.ensures i)) ∙ sym c.same_bytes.ensures ∙ told)
