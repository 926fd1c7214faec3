use Rattle.std.proofs.lemmas.Grind.{common_steps}
use Rattle.std.proofs.Common.{◌≡◌, ◌++◌, List, length, refl, sym, ap, ◌∙◌, arith}
use Rattle.std.specs.Vec.Iter.{into_iter_items}
use Rattle.cedar_data.specs.declared.node.Node.{Node}
use Rattle.schema_syntax_tree.specs.declared.annotated.Annotated.{Annotated}
use Rattle.schema_syntax_tree.specs.declared.declaration.Declaration.{Declaration}
use Rattle.schema_syntax_tree.specs.declared.namespace.Namespace.{Namespace}
use Rattle.schema_convert_openings.specs.Joined.{named_so, unnamed_so, named, outside, empty_namespace, joined_by_name}
use Rattle.schema_convert_openings.proofs.Gathered.{over}
use Rattle.schema_convert_openings.proofs.joined.joined.Goals as goal

pub returns : goal.returns
returns c =
    let ended : length (into_iter_items c.loop-namespace.namespace-iterator)
    ≡ 0 = sym c.loop-namespace.namespace-iterator.rest.ok.0 ∙ c.in-None.ensures.steps.0 in
    let with_names : c.loop-namespace.named.items
    ≡ named c.args.schema = over named (λ n. named_so n.item.name n) refl (λ x xs. refl) _ _ _
    c.loop-namespace.invariant.named ended in
    let without : c.loop-namespace.outside.items
    ≡ outside c.args.schema = over outside (λ n. unnamed_so n.item.name n.item.decls) refl (λ x xs. refl) _ _ _
    c.loop-namespace.invariant.outside ended in
    c.in_ok-push_empty.ensures ∙ (ap
    (λ (l : List (Annotated Namespace)). l ++ empty_namespace c.loop-namespace.outside.items)
    (c.in_ok-namespaces.ensures ∙ ap joined_by_name with_names)
    ∙ ap (λ (l : List (Annotated (Node Declaration))). joined_by_name (named c.args.schema) ++ empty_namespace l)
    without)

pub loop-namespace-preserved : goal.loop-namespace-preserved
loop-namespace-preserved c = record {
  named = grind (arith, common_steps);
  outside = grind (arith, common_steps);
}
