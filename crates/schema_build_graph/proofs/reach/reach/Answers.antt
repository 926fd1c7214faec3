use Rattle.std.proofs.Common.{◌≡◌, ◌<◌, length, get_or, arith, All, Contains, subst, sym, ap, ◌∙◌, [], rules}
use Rattle.std.proofs.lemmas.Grind.{common_steps}
use Rattle.schema_build_graph.specs.Marks.{IsMarked, AddsFrom}
use Rattle.schema_build_graph.specs.Graph.{targets_of}
use Rattle.schema_build_graph.proofs.Marked.{marked_none}
use Rattle.schema_build_graph.proofs.Found.{targets_at, sound_first, sound_next, reached, still_covered, next_covered}
use Rattle.schema_build_graph.proofs.Found.{longer}
use Rattle.schema_build_graph.proofs.reach.reach.Goals as goal

pub add_new-requires-clause-marked : goal.add_new-requires-clause-marked
add_new-requires-clause-marked c = subst (λ f. IsMarked c.args.stamp f c.args.marks.now)
    (sym c.clear.ensures.items) (marked_none c.args.stamp c.args.marks.now c.requires.stamp)

pub loop-at-init : goal.loop-at-init
loop-at-init c =
    let added : AddsFrom c.deref.result.now [] c.add_new.new.found.items = subst
    (λ f. AddsFrom c.deref.result.now f c.add_new.new.found.items) c.clear.ensures.items
    c.in_ok-add_new.ensures.added in
    let row : targets_of c.args.graph.now c.args.start
    ≡ c.deref.result.now = targets_at c.args.graph.now c.args.start c.index-graph-start.result c.requires.start
    c.index-graph-start.is ∙ sym c.deref.ensures.value in
    record {
      marked = c.in_ok-add_new.ensures.marked;
      within = omega arith;
      sound = sound_first c.args.graph.now c.args.start c.deref.result.now c.add_new.new.found.items row added;
      first = subst (All (Contains c.add_new.new.found.items)) (sym row) c.in_ok-add_new.ensures.covers;
      next = λ k d h. absurd (omega arith);
    }

pub loop-at-preserved : goal.loop-at-preserved
loop-at-preserved c =
    let l = c.loop-at in
    let graph = c.args.graph.now in
    let after = c.add_new-in-loop-at.new.found.items in
    let targets = c.deref-in-loop-at.result.now in
    let added : AddsFrom targets l.found.items after = c.in_ok-add_new-2.ensures.added in
    let here : l.at < length l.found.items = omega arith in
    let next : c.index-next.result.now ≡ get_or l.found.items l.at 0 = grind (arith, common_steps) in
    let inside : c.index-next.result.now < length graph = omega (arith, l.invariant.marked.below l.at 0 here) in
    let row : targets_of graph (get_or l.found.items l.at 0) ≡ targets = ap (targets_of graph) (sym next)
    ∙ targets_at graph c.index-next.result.now c.index-graph-next.result inside c.index-graph-next.is
    ∙ sym c.deref-in-loop-at.ensures.value in
    record {
      marked = c.in_ok-add_new-2.ensures.marked;
      within = omega (arith, longer targets l.found.items after added);
      sound = sound_next graph c.args.start (get_or l.found.items l.at 0) targets l.found.items after row
          (l.invariant.sound l.at 0 here) added l.invariant.sound;
      first = still_covered (targets_of graph c.args.start) targets l.found.items after added l.invariant.first;
      next = next_covered graph targets l.found.items after l.at here row added l.invariant.next
          c.in_ok-add_new-2.ensures.covers;
    }

pub returns-clause-reached : goal.returns-clause-reached
returns-clause-reached c =
    let l = c.loop-at in
    reached c.args.graph.now c.args.start l.found.items c.sort_unstable.new.self.items l.at l.invariant.marked.apart
    c.sort_unstable.ensures.permutation c.sort_unstable.ensures.sorted
    (omega arith) l.invariant.sound l.invariant.first l.invariant.next

pub bounds-graph-next : goal.bounds-graph-next
bounds-graph-next c = search rules

pub bounds-graph-start : goal.bounds-graph-start
bounds-graph-start c = search rules

pub overflow_add-at : goal.overflow_add-at
overflow_add-at c = search rules

pub returns-clause-marks : goal.returns-clause-marks
returns-clause-marks c = search rules

pub returns-in_err-add_new-2-clause-marks : goal.returns-in_err-add_new-2-clause-marks
returns-in_err-add_new-2-clause-marks c = search rules

pub returns-in_err-add_new-2-clause-reached : goal.returns-in_err-add_new-2-clause-reached
returns-in_err-add_new-2-clause-reached c = search rules

pub returns-in_err-add_new-clause-marks : goal.returns-in_err-add_new-clause-marks
returns-in_err-add_new-clause-marks c = search rules

pub returns-in_err-add_new-clause-reached : goal.returns-in_err-add_new-clause-reached
returns-in_err-add_new-clause-reached c = search rules
