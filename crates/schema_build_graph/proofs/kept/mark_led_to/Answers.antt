use Rattle.std.proofs.Common.{◌≡◌, ◌<◌, ◌-◌, length, get_or, refl, sym, ◌∙◌, arith, inl}
use Rattle.schema_build_graph.specs.Graph.{targets_of}
use Rattle.schema_build_graph.proofs.Found.{targets_at}
use Rattle.schema_build_graph.proofs.Fronts.{open_first, open_marked, open_unmarked, all_closed}
use Rattle.schema_build_graph.proofs.Wanted.{led_more}
use Rattle.schema_build_graph.proofs.kept.mark_led_to.Goals as goal

pub loop-left-init : goal.loop-left-init
loop-left-init c = record {
  within = omega arith;
  same = refl;
  stay = λ v m. m;
  open_ones = open_first c.args.graph.now c.args.order.now c.requires.order c.args.marks.now c.requires.marks;
  only = λ v m. inl m;
}

pub loop-left-preserved-then-marks-vertex : goal.loop-left-preserved-then-marks-vertex
loop-left-preserved-then-marks-vertex c =
    let l = c.loop-left in
    let graph = c.args.graph.now in
    let order = c.args.order.now in
    let some : 0 < l.left = c.loop-left-test.true in
    let vertex = get_or order (l.left - 1) 0 in
    let inside : vertex < length graph = c.requires.order.below (l.left - 1) 0
    (omega (arith, some, l.invariant.within)) in
    let row : targets_of graph vertex ≡ c.deref.result.now =
    targets_at graph vertex c.index-graph-vertex.result inside c.index-graph-vertex.is ∙ sym c.deref.ensures.value in
    record {
      within = omega (arith, l.invariant.within);
      same = c.mark.ensures.same ∙ l.invariant.same;
      stay = λ v m. c.mark.ensures.stay v (l.invariant.stay v m);
      open_ones =
          open_marked graph order c.requires.order l.left l.marks c.mark.new.marks c.deref.result.now some
          l.invariant.within row c.mark.ensures l.invariant.open_ones;
      only =
          led_more graph c.args.marks.now l.marks c.mark.new.marks vertex c.deref.result.now c.if-marks-vertex.true row
          c.mark.ensures l.invariant.only;
    }

pub loop-left-preserved : goal.loop-left-preserved
loop-left-preserved c =
    let l = c.loop-left in
    record {
      within = omega (arith, l.invariant.within);
      same = l.invariant.same;
      stay = l.invariant.stay;
      open_ones =
          open_unmarked c.args.graph.now c.args.order.now c.requires.order l.left l.marks c.loop-left-test.true
          l.invariant.within c.if-marks-vertex.false l.invariant.open_ones;
      only = l.invariant.only;
    }

pub returns-clause-closed : goal.returns-clause-closed
returns-clause-closed c =
    all_closed c.args.graph.now c.args.order.now c.requires.order c.loop-left.left c.loop-left.marks
    (omega (arith, c.loop-left-test.false)) c.loop-left.invariant.open_ones
