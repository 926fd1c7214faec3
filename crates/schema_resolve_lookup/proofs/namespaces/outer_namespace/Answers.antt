use Rattle.std.proofs.Common.{refl, sym, ap, ◌∙◌, ◌&&◌, [], None}
use Rattle.std.specs.Cmp.Lexicographic.{slice_cmp}
use Rattle.std.specs.List.{list_any}
use Rattle.cedar_names.specs.Definitions.{same_name}
use Rattle.cedar_names.specs.Orders.{id_text_order, ids_total}
use Rattle.schema_resolve_lookup.specs.Sought.{namespace_words, namespace_ids}
use Rattle.schema_resolve_lookup.proofs.Ordered.{namespace_alike, by_words, sorted_seen}
use Rattle.schema_resolve_lookup.proofs.Searched.{found_at, none_above}
use Rattle.schema_resolve_lookup.proofs.namespaces.outer_namespace.Goals as goal

pub returns-in-None : goal.returns-in-None
returns-in-None c = λ test.
    ap (list_any (λ e. same_name [] (namespace_words e.0) && test e.1)) (sym c.as_slice.ensures.entries)
    ∙ found_at ids_total (λ e. namespace_ids e.0) [] (λ e. same_name [] (namespace_words e.0))
    (λ e. namespace_alike None e.0) (λ e. test e.1) c.as_slice.result.now
    (sorted_seen _ (slice_cmp id_text_order) namespace_ids (by_words _ refl (λ n. refl) (λ n. refl) (λ n m. refl))
    c.args.searched.now.fragment.now.0 c.as_slice.result.now c.as_slice.ensures.entries c.as_slice.ensures.sorted)
    0 c.first-item.result c.in-len1-up.len_at_least
    (ap (λ x. slice_cmp id_text_order (namespace_ids x.0) []) (sym c.first-item.is)
    ∙ ap (λ n. slice_cmp id_text_order (namespace_ids n) []) c.in-None.is)
    ∙ ap (λ x. test x.1) (sym c.first-item.is)

pub returns-in-Some : goal.returns-in-Some
returns-in-Some c = λ test.
    ap (list_any (λ e. same_name [] (namespace_words e.0) && test e.1)) (sym c.as_slice.ensures.entries)
    ∙ none_above ids_total (λ e. namespace_ids e.0) [] (λ e. same_name [] (namespace_words e.0))
    (λ e. namespace_alike None e.0) (λ e. test e.1) c.as_slice.result.now
    (sorted_seen _ (slice_cmp id_text_order) namespace_ids (by_words _ refl (λ n. refl) (λ n. refl) (λ n m. refl))
    c.args.searched.now.fragment.now.0 c.as_slice.result.now c.as_slice.ensures.entries c.as_slice.ensures.sorted)
    c.first-item.result
    (ap (λ x. slice_cmp id_text_order (namespace_ids x.0) []) (sym c.first-item.is)
    ∙ ap (λ n. slice_cmp id_text_order (namespace_ids n) []) c.in-Some.is)
