use Rattle.std.proofs.Common.{rules, refl, sym, ap, ◌∙◌}
use Rattle.std.proofs.lemmas.Fn.{always_returns_same}
use Rattle.std.specs.List.{list_any}
use Rattle.std.specs.Str.{bytes_eq}
use Rattle.cedar_names.specs.Orders.{id_text_order, id_text_total}
use Rattle.schema_resolve_lookup.proofs.Ordered.{word_alike, sorted_seen}
use Rattle.schema_resolve_lookup.proofs.Searched.{found_any}
use Rattle.schema_resolve_lookup.proofs.declared_in.has_common.Goals as goal

pub returns-then-has_common_near : goal.returns-then-has_common_near
returns-then-has_common_near c =
    let word = c.args.word.now in
    sym (c.has_common_near.ensures c.if-has_common_near.true)
    ∙ ap (list_any (λ e. bytes_eq word.text e.0.id.id.text)) c.as_slice-entries.ensures.entries

pub returns : goal.returns
returns c =
    let word = c.args.word.now in
    let entries = c.as_slice-entries.result.now in
    c.is_found.ensures
    ∙ (found_any id_text_total (λ e. e.0.id.id) word (λ e. bytes_eq word.text e.0.id.id.text)
    (λ e. word_alike e.0.id.id word) entries
    (sorted_seen _ id_text_order (λ k. k.id.id) (λ a b. refl) c.args.commons.now entries
    c.as_slice-entries.ensures.entries c.as_slice-entries.ensures.sorted) c.binary_search_by-found.result
    c.binary_search_by-found.ensures.bound
    (c.binary_search_by-found.ensures.position (λ e. id_text_order e.0.id.id word)
    (always_returns_same _ _ _ (λ a r f' k. search rules)))
    ∙ ap (list_any (λ e. bytes_eq word.text e.0.id.id.text)) c.as_slice-entries.ensures.entries)
