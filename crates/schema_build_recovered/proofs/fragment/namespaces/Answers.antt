use Rattle.std.proofs.Common.{◌<◌, ◌≤◌, [], ◌++◌, length, map, sym, ap, ◌∙◌, append-nil, arith}
use Rattle.std.proofs.lemmas.List.{take_all}
use Rattle.cedar_names.specs.CanonicalText.{in_order}
use Rattle.schema_build_text.specs.Rows.{sorted_once}
use Rattle.schema_build_recovered.specs.Places.{words_of}
use Rattle.schema_build_recovered.proofs.Fragments.{keyed_more, lent_more, namespaces_are}
use Rattle.schema_build_recovered.proofs.Gathered.{lent_long}
use Rattle.schema_build_recovered.proofs.Halves.{entity_key, action_key}
use Rattle.schema_build_recovered.proofs.Spaces.{namespace_order, by_words, sorted_by_words}
use Rattle.schema_build_recovered.proofs.Walks.{words}
use Rattle.schema_build_recovered.proofs.fragment.namespaces.Goals as goal

pub loop-entity-init : goal.loop-entity-init
loop-entity-init c = ap words c.new-all.ensures.items

pub loop-entity-preserved : goal.loop-entity-preserved
loop-entity-preserved c =
    rw c.in_ok-push.ensures.items
    (keyed_more entity_key [] c.args.entities.now c.loop-entity.entity-index c.entity-item.result
    c.loop-entity.all.items
    c.namespace_of.result c.loop-entity-test.true c.entity-item.is
    (c.namespace_of.ensures ∙ ap entity_key c.entity.view_is) c.loop-entity.invariant)

pub loop-action-init : goal.loop-action-init
loop-action-init c =
    c.loop-entity.invariant
    ∙ ap (map entity_key) (take_all c.loop-entity.entity-index c.args.entities.now
    (omega (arith, c.loop-entity-test.false)))
    ∙ sym (append-nil (map entity_key c.args.entities.now))

pub loop-action-preserved : goal.loop-action-preserved
loop-action-preserved c =
    rw c.in_ok-push-2.ensures.items
    (keyed_more action_key (map entity_key c.args.entities.now) c.args.actions.now c.loop-action.action-index
    c.action-item.result c.loop-action.all.items c.namespace_of-in-loop-action.result c.loop-action-test.true
    c.action-item.is (c.namespace_of-in-loop-action.ensures ∙ ap action_key c.action.view_is) c.loop-action.invariant)

pub loop-at-init : goal.loop-at-init
loop-at-init c = c.in_ok-namespaces.ensures.items

pub loop-at-preserved : goal.loop-at-preserved
loop-at-preserved c =
    let within : c.loop-at.at < length c.in_ok-rising.rising.items =
    omega (arith, c.loop-at-test.true, c.len-at-end.ensures) in
    rw c.in_ok-push-3.ensures.items
    (lent_more c.in_ok-rising.rising.items c.loop-at.at c.index.result.now c.loop-at.namespaces.items within
    c.index.ensures c.loop-at.invariant)

pub returns : goal.returns
returns c =
    let rising = map (λ x. x.now) c.in_ok-rising.rising.items in
    let done : length rising ≤ c.loop-at.at =
    omega (arith, c.loop-at-test.false, c.len-at-end.ensures, lent_long c.in_ok-rising.rising.items) in
    let found = c.loop-at.invariant ∙ take_all c.loop-at.at rising done ∙ c.in_ok-rising.ensures
    ∙ ap (sorted_once namespace_order) c.deref.ensures.value in
    let all = take_all c.loop-action.action-index c.args.actions.now (omega (arith, c.loop-action-test.false)) in
    ap words found ∙ sorted_by_words (λ n. words_of n.words) namespace_order by_words c.loop-action.all.items
    ∙ ap in_order (c.loop-action.invariant ∙ ap (λ l. map entity_key c.args.entities.now ++ map action_key l) all)
    ∙ namespaces_are c.args.entities.now c.args.actions.now
