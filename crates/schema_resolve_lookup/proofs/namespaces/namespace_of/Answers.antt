use Rattle.std.proofs.Common.{◌≡◌, rules, refl, sym, ap, ◌∙◌, ◌&&◌, subst, false, [], Option, Some, None}
use Rattle.std.proofs.lemmas.Fn.{always_returns_same}
use Rattle.std.specs.Cmp.Lexicographic.{slice_cmp}
use Rattle.std.specs.List.{list_any}
use Rattle.std.specs.Option.{is_some, option_copied}
use Rattle.cedar_names.specs.Definitions.{same_name}
use Rattle.cedar_names.specs.Orders.{id_text_order, ids_total}
use Rattle.schema_resolve_lookup.specs.Sought.{words_before, namespace_words, ids_before, namespace_ids}
use Rattle.schema_resolve_lookup.specs.Sought.{passes_in, passes}
use Rattle.schema_resolve_lookup.specs.declared.sought.Before.{Before}
use Rattle.schema_resolve_lookup.proofs.Ordered.{namespace_alike, by_words, sorted_seen}
use Rattle.schema_resolve_lookup.proofs.Searched.{found_at, found_none}
use Rattle.schema_resolve_lookup.proofs.namespaces.namespace_of.Goals as goal

pub returns-in-Ok : goal.returns-in-Ok
returns-in-Ok c = λ test.
    let words = words_before c.args.sought in
    ap (list_any (λ e. same_name words (namespace_words e.0) && test e.1)) (sym c.as_slice-entries.ensures.entries)
    ∙ found_at ids_total (λ e. namespace_ids e.0) (ids_before c.args.sought)
    (λ e. same_name words (namespace_words e.0)) (λ e. namespace_alike c.args.sought e.0) (λ e. test e.1)
    c.as_slice-entries.result.now
    (sorted_seen _ (slice_cmp id_text_order) namespace_ids (by_words _ refl (λ n. refl) (λ n. refl) (λ n m. refl))
    c.args.searched.now.fragment.now.0 c.as_slice-entries.result.now c.as_slice-entries.ensures.entries
    c.as_slice-entries.ensures.sorted) c.in-Ok.at c.index-entries-at.result c.in-Ok.ensures.bound
    (c.in-Ok.ensures.position (λ e. slice_cmp id_text_order (namespace_ids e.0) (ids_before c.args.sought))
    (always_returns_same _ _ _ (λ a r f' k. search rules)) c.index-entries-at.result)

no_words : (sought : Option Before) → is_some sought ≡ false → words_before sought ≡ []
no_words None e = refl
no_words (Some before) e = cc

pub returns-then-is_none : goal.returns-then-is_none
returns-then-is_none c = λ test.
    subst (λ words. passes_in c.args.searched.now.fragment.now words test
    ≡ passes (option_copied c.outer_namespace.result) test)
    (sym (no_words c.args.sought c.if-is_none.ensures)) (c.outer_namespace.ensures test)

pub returns-in-Err : goal.returns-in-Err
returns-in-Err c = λ test.
    let words = words_before c.args.sought in
    ap (list_any (λ e. same_name words (namespace_words e.0) && test e.1)) (sym c.as_slice-entries.ensures.entries)
    ∙ found_none ids_total (λ e. namespace_ids e.0) (ids_before c.args.sought)
    (λ e. same_name words (namespace_words e.0)) (λ e. namespace_alike c.args.sought e.0) (λ e. test e.1)
    c.as_slice-entries.result.now
    (sorted_seen _ (slice_cmp id_text_order) namespace_ids (by_words _ refl (λ n. refl) (λ n. refl) (λ n m. refl))
    c.args.searched.now.fragment.now.0 c.as_slice-entries.result.now c.as_slice-entries.ensures.entries
    c.as_slice-entries.ensures.sorted) c.in-Err.field-0
    (c.in-Err.ensures.position (λ e. slice_cmp id_text_order (namespace_ids e.0) (ids_before c.args.sought))
    (always_returns_same _ _ _ (λ a r f' k. search rules)))
