use Rattle.std.proofs.lemmas.Grind.{elements}
use Rattle.std.proofs.Common.{◌≡◌, ◌<◌, length, get_or, take, refl, sym, ◌∙◌, subst, arith, All, Some, rules}
use Rattle.std.specs.Prelude.{slice_get}
use Rattle.std.proofs.lemmas.List.{length-set, take_all}
use Rattle.std.proofs.lemmas.Option.{slice_get_read}
use Rattle.schema_json_walk.specs.Walk.{parts}
use Rattle.schema_build_expand.specs.Targets.{AreExpanded, IsReady, ExpandsTo}
use Rattle.schema_build_expand.proofs.Done.{ready, expanded_more, front_done}
use Rattle.schema_build_expand.proofs.commons.expand_commons.Goals as goal

pub expand_type-requires-clause-done : goal.expand_type-requires-clause-done
expand_type-requires-clause-done g c =
    let it = c.index-commons-rank.result in
    let rank = get_or c.args.order.now c.loop-rank.rank-index 0 in
    let lt : rank < length c.args.commons.now = c.requires.1.1.1.0 c.loop-rank.rank-index 0 c.loop-rank-test.true in
    let at : slice_get c.args.commons.now rank ≡ Some it =
    slice_get_read c.args.commons.now (length c.args.commons.now) rank it refl lt c.index-commons-rank.is in
    let info = c.requires.1.1.0 rank it at in
    subst (λ s. AreExpanded s c.deref.result.now) (sym info.0)
    (rw c.deref.ensures.value c.loop-rank.invariant.expanded)

pub expand_type-requires-clause-ready : goal.expand_type-requires-clause-ready
expand_type-requires-clause-ready g c =
    let it = c.index-commons-rank.result in
    let rank = get_or c.args.order.now c.loop-rank.rank-index 0 in
    let lt : rank < length c.args.commons.now = c.requires.1.1.1.0 c.loop-rank.rank-index 0 c.loop-rank-test.true in
    let at : slice_get c.args.commons.now rank ≡ Some it =
    slice_get_read c.args.commons.now (length c.args.commons.now) rank it refl lt c.index-commons-rank.is in
    let info = c.requires.1.1.0 rank it at in
    subst (λ s. All (IsReady s c.deref.result.now (g.R.Meanings.place it.0)) (parts it.1.now)) (sym info.0)
    (rw c.deref.ensures.value (ready g.s c.loop-rank.done.items (take c.loop-rank.rank-index c.args.order.now)
    (g.R.Meanings.place it.0) (parts it.1.now) c.loop-rank.invariant.finished
    (c.requires.1.1.1.1 c.loop-rank.rank-index it c.loop-rank-test.true at)))

pub loop-rank-preserved : goal.loop-rank-preserved
loop-rank-preserved g c =
    let it = c.index-commons-rank.result in
    let done = c.loop-rank.done.items in
    let rank = get_or c.args.order.now c.loop-rank.rank-index 0 in
    let lt : rank < length c.args.commons.now = c.requires.1.1.1.0 c.loop-rank.rank-index 0 c.loop-rank-test.true in
    let at : slice_get c.args.commons.now rank ≡ Some it =
    slice_get_read c.args.commons.now (length c.args.commons.now) rank it refl lt c.index-commons-rank.is in
    let info = c.requires.1.1.0 rank it at in
    let room : rank < length done = omega (arith, lt, c.loop-rank.invariant.long) in
    let one : ExpandsTo g.s (g.R.Meanings.place it.0) it.1.now c.in_ok-ty.ty =
    subst (λ s. ExpandsTo s (g.R.Meanings.place it.0) it.1.now c.in_ok-ty.ty) info.0 c.in_ok-ty.ensures in
    let made : ExpandsTo g.s info.1.0.place info.1.0.ty c.in_ok-ty.ty = rw (info.1.2, info.1.3) one in
    record {
      expanded = expanded_more g.s done rank c.in_ok-ty.ty info.1.0 c.loop-rank.invariant.expanded room info.1.1 made;
      long = length-set done rank (Some c.in_ok-ty.ty) ∙ c.loop-rank.invariant.long;
      finished =
          front_done done c.args.order.now c.loop-rank.rank-index rank c.in_ok-ty.ty c.loop-rank-test.true refl room
          c.loop-rank.invariant.finished;
    }

pub returns-clause-whole : goal.returns-clause-whole
returns-clause-whole g c =
    rw (take_all c.loop-rank.rank-index c.args.order.now c.loop-rank-test.false) at c.loop-rank.invariant.finished

pub loop-rank-init : goal.loop-rank-init
loop-rank-init g c = record {
  expanded = grind (arith, elements);
  long = search rules;
  finished = search rules;
}
