use Rattle.std.proofs.Common.{refl, ap, ◌∙◌, ◌++◌}
use Rattle.schema_convert_faults.specs.Faults.{declaration_faults, all_declaration_faults}
use Rattle.schema_convert_openings.proofs.Gathered.{more_at, over_at}
use Rattle.schema_convert_faults.proofs.faults.all_declaration_faults.Goals as goal

pub loop-namespace-preserved : goal.loop-namespace-preserved
loop-namespace-preserved c =
    more_at all_declaration_faults (λ n. declaration_faults n.item.decls) refl (λ x xs. refl) _ _
    c.args.namespaces.now c.loop-namespace.namespace-index c.namespace-item.result _ c.loop-namespace.invariant
    c.loop-namespace-test.true c.namespace-item.is
    (c.in_ok-push_faults.ensures ∙ ap (λ o. c.loop-namespace.faults.items ++ o)
    (c.in_ok-more.ensures ∙ ap declaration_faults c.as_slice.ensures))

pub returns : goal.returns
returns c = over_at all_declaration_faults (λ n. declaration_faults n.item.decls) refl (λ x xs. refl) _
    c.args.namespaces.now c.loop-namespace.namespace-index _ c.loop-namespace.invariant c.loop-namespace-test.false
