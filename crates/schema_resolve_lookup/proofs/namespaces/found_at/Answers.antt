use Rattle.std.proofs.Common.{refl, sym, ap, ◌∙◌, ◌&&◌}
use Rattle.std.specs.Cmp.Lexicographic.{slice_cmp}
use Rattle.std.specs.List.{list_any}
use Rattle.cedar_names.specs.Definitions.{same_name}
use Rattle.cedar_names.specs.Orders.{id_text_order, ids_total}
use Rattle.schema_resolve_lookup.specs.Sought.{words_before, namespace_words, ids_before, namespace_ids}
use Rattle.schema_resolve_lookup.proofs.Ordered.{namespace_alike, by_words, sorted_seen}
use Rattle.schema_resolve_lookup.proofs.Searched.{found_at}
use Rattle.schema_resolve_lookup.proofs.namespaces.found_at.Goals as goal

pub returns-in-Equal : goal.returns-in-Equal
returns-in-Equal c = λ test.
    let words = words_before c.args.sought in
    ap (list_any (λ e. same_name words (namespace_words e.0) && test e.1)) (sym c.as_slice-entries.ensures.entries)
    ∙ found_at ids_total (λ e. namespace_ids e.0) (ids_before c.args.sought)
    (λ e. same_name words (namespace_words e.0)) (λ e. namespace_alike c.args.sought e.0) (λ e. test e.1)
    c.as_slice-entries.result.now
    (sorted_seen _ (slice_cmp id_text_order) namespace_ids (by_words _ refl (λ n. refl) (λ n. refl) (λ n m. refl))
    c.args.searched.now.fragment.now.0 c.as_slice-entries.result.now c.as_slice-entries.ensures.entries
    c.as_slice-entries.ensures.sorted) c.args.at c.index-entries-at.result c.if-at-entries.false
    (ap (λ x. slice_cmp id_text_order (namespace_ids x.0) (ids_before c.args.sought)) (sym c.index-entries-at.is)
    ∙ (sym c.compare.ensures ∙ c.in-Equal.is))
    ∙ ap (λ x. test x.1) (sym c.index-entries-at.is)
