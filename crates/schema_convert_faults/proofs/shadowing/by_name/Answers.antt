use Rattle.std.proofs.Common.{◌∷◌, [], Option, refl, ap}
use Rattle.schema_syntax_tree.specs.declared.path.Path.{Path}
use Rattle.schema_convert_faults.specs.Borrowed.{optional_now}
use Rattle.schema_convert_openings.proofs.Gathered.{more_at, over_at, pushed_now}
use Rattle.schema_convert_faults.proofs.Sorted.{name_entries, names_sorted}
use Rattle.schema_convert_faults.proofs.shadowing.by_name.Goals as goal

pub loop-namespace-preserved : goal.loop-namespace-preserved
loop-namespace-preserved c =
    more_at name_entries (λ n. (n.item.name, n) ∷ []) refl (λ x xs. refl) _ _ c.args.namespaces.now
    c.loop-namespace.namespace-index c.namespace-item.result _ c.loop-namespace.invariant c.loop-namespace-test.true
    c.namespace-item.is (pushed_now optional_now _ _ _ _ c.in_ok-push.ensures.items
    (ap (λ (name : Option Path). (name, c.namespace-item.result)) c.as_ref.ensures.value))

pub returns : goal.returns
returns c =
    names_sorted c.args.namespaces.now c.loop-namespace.entries.items c.in_ok-sorted.sorted
    c.in_ok-sorted.ensures
    (over_at name_entries (λ n. (n.item.name, n) ∷ []) refl (λ x xs. refl) _ c.args.namespaces.now
    c.loop-namespace.namespace-index _ c.loop-namespace.invariant c.loop-namespace-test.false)
