use Rattle.std.proofs.Common.{◌+◌, ◌-◌, ◌/◌, get_or, sym, ap, ◌∙◌, arith}
use Rattle.std.specs.Ordering.{is_eq}
use Rattle.std.specs.Str.{bytes_eq}
use Rattle.std.proofs.lemmas.List.Folds.{list_any_at}
use Rattle.schema_resolve_lookup.proofs.Ordered.{word_alike}
use Rattle.schema_resolve_lookup.proofs.declared_in.has_entity_near.Goals as goal

pub returns-in-Equal : goal.returns-in-Equal
returns-in-Equal c = λ told.
    let word = c.args.word.now in
    let entries = c.args.entries.now in
    let middle = c.loop-low.low + (c.loop-low.high - c.loop-low.low) / 2 in
    let entry = c.index-entries-middle.result in
    list_any_at (λ e. bytes_eq word.text e.0.id.text) entries middle entry (omega arith)
    (sym (word_alike (get_or entries middle entry).0.id word) ∙ ap is_eq (sym c.cmp.ensures ∙ c.in-Equal.is))
