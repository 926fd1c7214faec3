use Rattle.std.proofs.Common.{rules, Ok, Err, refl, sym, ap, ◌∙◌}
use Rattle.std.proofs.lemmas.Fn.{always_returns_same}
use Rattle.std.specs.List.{list_any}
use Rattle.std.specs.Str.{bytes_eq}
use Rattle.cedar_names.specs.Orders.{id_text_order, id_text_total}
use Rattle.schema_resolve_lookup.proofs.Ordered.{word_alike, sorted_seen}
use Rattle.schema_resolve_lookup.proofs.Searched.{found_any}
use Rattle.schema_resolve_lookup.proofs.declared_in.has_entity.Goals as goal

pub returns-then-has_entity_near : goal.returns-then-has_entity_near
returns-then-has_entity_near c =
    let word = c.args.word.now in
    sym (c.has_entity_near.ensures c.if-has_entity_near.true)
    ∙ ap (list_any (λ e. bytes_eq word.text e.0.id.text)) c.as_slice-entries.ensures.entries

pub returns-in-Ok : goal.returns-in-Ok
returns-in-Ok c =
    let word = c.args.word.now in
    let entries = c.as_slice-entries.result.now in
    found_any id_text_total (λ e. e.0.id) word (λ e. bytes_eq word.text e.0.id.text)
    (λ e. word_alike e.0.id word) entries
    (sorted_seen _ id_text_order (λ k. k.id) (λ a b. refl) c.args.entities.now entries
    c.as_slice-entries.ensures.entries c.as_slice-entries.ensures.sorted) (Ok c.in-Ok.at)
    c.in-Ok.ensures.bound
    (c.in-Ok.ensures.position (λ e. id_text_order e.0.id word)
    (always_returns_same _ _ _ (λ a r f' k. search rules)))
    ∙ ap (list_any (λ e. bytes_eq word.text e.0.id.text)) c.as_slice-entries.ensures.entries

pub returns-in-Err : goal.returns-in-Err
returns-in-Err c =
    let word = c.args.word.now in
    let entries = c.as_slice-entries.result.now in
    found_any id_text_total (λ e. e.0.id) word (λ e. bytes_eq word.text e.0.id.text)
    (λ e. word_alike e.0.id word) entries
    (sorted_seen _ id_text_order (λ k. k.id) (λ a b. refl) c.args.entities.now entries
    c.as_slice-entries.ensures.entries c.as_slice-entries.ensures.sorted) (Err c.in-Err.field-0)
    c.in-Err.ensures.bound
    (c.in-Err.ensures.position (λ e. id_text_order e.0.id word)
    (always_returns_same _ _ _ (λ a r f' k. search rules)))
    ∙ ap (list_any (λ e. bytes_eq word.text e.0.id.text)) c.as_slice-entries.ensures.entries
