use Rattle.std.proofs.Common.{◌≡◌, true, subst, arith, inl, inr}
use Rattle.std.specs.Bool.{Decides}
use Rattle.std.proofs.lemmas.Bool.{cases_lt}
use Rattle.schema_build_graph.specs.Graph.{HasEdge}
use Rattle.schema_build_graph.proofs.Closures.{none_of, least_of}
use Rattle.schema_build_graph.proofs.Own.{own_target}
use Rattle.schema_build_graph.proofs.cycles.least_cyclic.Goals as goal

pub loop-vertex-init : goal.loop-vertex-init
loop-vertex-init c = λ u lt e. omega arith

pub returns-then-contains : goal.returns-then-contains
returns-then-contains c =
    let rows = c.args.rows.now in
    let v = c.loop-vertex.vertex-counter in
    let d : Decides c.contains.result
    (HasEdge rows v v) = own_target rows v c.index-rows-vertex.result c.deref.result.now c.contains.result
    c.loop-vertex-test.true c.index-rows-vertex.is c.deref.ensures.value c.contains.ensures.cases in
    λ graph all. least_of graph rows all v (d.0 c.if-contains.true) c.loop-vertex.invariant

pub loop-vertex-preserved : goal.loop-vertex-preserved
loop-vertex-preserved c =
    let rows = c.args.rows.now in
    let v = c.loop-vertex.vertex-counter in
    let d : Decides c.contains.result
    (HasEdge rows v v) = own_target rows v c.index-rows-vertex.result c.deref.result.now c.contains.result
    c.loop-vertex-test.true c.index-rows-vertex.is c.deref.ensures.value c.contains.ensures.cases in
    λ u lt e. elim (cases_lt u v) [
      | inl less ↦ c.loop-vertex.invariant u less e
      | inr more ↦
          let same : u ≡ v = omega arith in
          let there : c.contains.result ≡ true = d.1 (subst (λ x. HasEdge rows x x) same e) in
          cc (c.if-contains.false, there)
    ]

pub returns : goal.returns
returns c = λ graph all. none_of graph c.args.rows.now all
    (λ u lt e. c.loop-vertex.invariant u (omega (arith, lt, c.loop-vertex-test.false)) e)
