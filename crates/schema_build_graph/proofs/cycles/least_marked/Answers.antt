use Rattle.std.proofs.Common.{◌≡◌, false, All, subst}
use Rattle.std.proofs.lemmas.List.{take_all}
use Rattle.std.proofs.lemmas.List.Elements.{All-more}
use Rattle.schema_build_graph.specs.Order.{is_marked}
use Rattle.schema_build_graph.proofs.Least.{least_here}
use Rattle.schema_build_graph.proofs.cycles.least_marked.Goals as goal

pub returns-then-marks-vertex : goal.returns-then-marks-vertex
returns-then-marks-vertex c = least_here c.args.row.now c.args.marks.now c.loop-vertex.vertex-index
    c.loop-vertex-test.true c.requires.rising c.loop-vertex.invariant c.if-marks-vertex.true

pub loop-vertex-preserved : goal.loop-vertex-preserved
loop-vertex-preserved c = All-more
    (λ u. is_marked c.args.marks.now u ≡ false) c.args.row.now c.loop-vertex.vertex-index 0 c.loop-vertex-test.true
    c.loop-vertex.invariant c.if-marks-vertex.false

pub returns : goal.returns
returns c = subst (All (λ u. is_marked c.args.marks.now u ≡ false))
    (take_all c.loop-vertex.vertex-index c.args.row.now c.loop-vertex-test.false) c.loop-vertex.invariant
