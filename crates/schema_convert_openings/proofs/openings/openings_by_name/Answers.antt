use Rattle.std.proofs.Common.{◌≡◌, ◌<◌, ◌∷◌, List, Some, cond, length, map, set, sym, ap, ◌∙◌, arith}
use Rattle.std.specs.BTreeMap.{is_at}
use Rattle.std.specs.Map.{lookup}
use Rattle.std.specs.Option.{option_cmp}
use Rattle.std.specs.Vec.Iter.{into_iter_items}
use Rattle.std.proofs.lemmas.List.{length-map, map-set}
use Rattle.std.proofs.Math.ListN.{get_or-map}
use Rattle.schema_syntax_tree.specs.declared.annotated.Annotated.{Annotated}
use Rattle.schema_syntax_tree.specs.declared.namespace.Namespace.{Namespace}
use Rattle.schema_convert_openings.specs.Joined.{path_cmp}
use Rattle.schema_convert_openings.proofs.Grouped.{opened, all_joined}
use Rattle.schema_convert_openings.proofs.OneName.{names_total}
use Rattle.schema_convert_openings.proofs.Ranked.{at_group, met, met_first, over}
use Rattle.schema_convert_openings.proofs.openings.openings_by_name.Goals as goal
use Rattle.schema_convert_openings.proofs.Gathered.{pushed_now}

pub index_mut-requires : goal.index_mut-requires
index_mut-requires c =
    let below : c.in-Some-get.place.now < length (map opened c.loop-namespace.groups.items) = at_group
    (λ (n : Annotated Namespace). n.item.name) (option_cmp path_cmp) _ _ _ _ c.in-Some.namespace.item.name _
    c.loop-namespace.invariant (sym c.in-Some-get.ensures.value) in
    let count : length (map opened c.loop-namespace.groups.items)
    ≡ length c.loop-namespace.groups.items = length-map c.loop-namespace.groups.items opened in
    omega (arith, below, count)

pub loop-namespace-preserved-in-Continue-1 : goal.loop-namespace-preserved-in-Continue-1
loop-namespace-preserved-in-Continue-1 c =
    let groups = c.loop-namespace.groups.items in
    let place = c.in-Some-get.place.now in
    let g = c.index_mut.result.now in
    met (λ (n : Annotated Namespace). n.item.name) (option_cmp path_cmp) names_total _ _ _ _ _ _ c.in-Some.namespace
    place (opened g) c.loop-namespace.invariant c.in-Some.ensures.steps.0 (sym c.in-Some-get.ensures.value)
    (ap opened c.index_mut.ensures.value ∙ sym (get_or-map opened groups place g))
    (map-set opened groups place _
    ∙ ap (λ (l : List (Annotated Namespace)). set (map opened groups) place (g.first, g.first ∷ l))
    c.in_ok-push-in-Some-get.ensures.items)

pub loop-namespace-preserved : goal.loop-namespace-preserved
loop-namespace-preserved c =
    let groups = c.loop-namespace.groups.items in
    let count : length (map opened groups) ≡ length groups = length-map groups opened in
    let len : c.len.result ≡ length (map opened groups) = c.len.ensures ∙ (c.loop-namespace.groups.ok.0 ∙ sym count) in
    met_first (λ (n : Annotated Namespace). n.item.name) (option_cmp path_cmp) names_total _ _ _ _ _ _ _
    c.in-Some.namespace c.loop-namespace.invariant c.in-Some.ensures.steps.0 (sym c.in-None-get.ensures.value)
    (λ q. c.in_ok-insert-in-None-get.ensures.updates.0 q
    ∙ (λ j. cond (is_at (option_cmp path_cmp (c.in_ok-name-in-None-get.ensures j)) q) (Some (len j))
    (lookup (is_at (option_cmp path_cmp q)) c.loop-namespace.places.entries)))
    (pushed_now opened _ _ _ _ c.in_ok-push-in-None-get.ensures.items
    (ap (λ (l : List (Annotated Namespace)). (c.in-Some.namespace, c.in-Some.namespace ∷ l)) c.new.ensures.items))

pub returns : goal.returns
returns c =
    let ended : length (into_iter_items c.loop-namespace.namespace-iterator)
    ≡ 0 = sym c.loop-namespace.namespace-iterator.rest.ok.0 ∙ c.in-None.ensures.steps.0 in
    all_joined c.args.namespaces.items c.loop-namespace.groups.items
    (over (λ (n : Annotated Namespace). n.item.name) (option_cmp path_cmp) _ _ _ _ c.loop-namespace.invariant ended)
