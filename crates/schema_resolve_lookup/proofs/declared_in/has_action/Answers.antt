use Rattle.std.proofs.Common.{rules, refl, ap, ◌∙◌}
use Rattle.std.proofs.lemmas.Fn.{always_returns_same}
use Rattle.std.specs.List.{list_any}
use Rattle.std.specs.Str.{bytes_eq, encode_utf8_all}
use Rattle.cedar_data.specs.Text.{text_cmp}
use Rattle.cedar_data.proofs.Orders.{text_total}
use Rattle.schema_resolve_lookup.proofs.Ordered.{text_alike, sorted_seen}
use Rattle.schema_resolve_lookup.proofs.Searched.{found_any}
use Rattle.schema_resolve_lookup.proofs.declared_in.has_action.Goals as goal

pub returns : goal.returns
returns c =
    let id = c.args.id.now in
    let entries = c.as_slice-entries.result.now in
    c.is_ok.ensures.value
    ∙ (found_any text_total (λ e. e.0) id (λ e. bytes_eq (encode_utf8_all id) (encode_utf8_all e.0))
    (λ e. text_alike e.0 id) entries
    (sorted_seen _ text_cmp (λ k. k) (λ a b. refl) c.args.actions.now entries
    c.as_slice-entries.ensures.entries c.as_slice-entries.ensures.sorted) c.binary_search_by.result
    c.binary_search_by.ensures.bound
    (c.binary_search_by.ensures.position (λ e. text_cmp e.0 id)
    (always_returns_same _ _ _ (λ a r f' k. search rules)))
    ∙ ap (list_any (λ e. bytes_eq (encode_utf8_all id) (encode_utf8_all e.0))) c.as_slice-entries.ensures.entries)
