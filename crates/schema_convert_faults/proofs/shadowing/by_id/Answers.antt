use Rattle.std.proofs.Common.{◌∷◌, [], refl, sym, ◌∙◌}
use Rattle.schema_convert_faults.specs.Borrowed.{entry_now}
use Rattle.schema_convert_openings.proofs.Gathered.{more, over, pushed_now}
use Rattle.schema_convert_faults.proofs.Sorted.{id_entry, id_entries, ids_sorted}
use Rattle.schema_convert_faults.proofs.shadowing.by_id.Goals as goal

pub loop-name-preserved : goal.loop-name-preserved
loop-name-preserved c =
    more id_entries (λ n. id_entry n ∷ []) refl (λ x xs. refl) _ _ _ _ c.in-Some.name _ c.loop-name.invariant
    c.in-Some.ensures.steps.0 (pushed_now entry_now _ _ _ _ c.in_ok-push.ensures.items refl)

pub returns : goal.returns
returns c =
    ids_sorted c.args.names.items c.loop-name.entries.items c.in_ok-sorted.sorted c.in_ok-sorted.ensures
    (over id_entries (λ n. id_entry n ∷ []) refl (λ x xs. refl) _ _ _ c.loop-name.invariant
    (sym c.loop-name.name-iterator.rest.ok.0 ∙ c.in-None.ensures.steps.0))
