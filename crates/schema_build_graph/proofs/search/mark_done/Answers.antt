use Rattle.std.proofs.Common.{◌≡◌, ◌<◌, ◌+◌, length, get_or, take, subst, arith, All, Contains}
use Rattle.std.proofs.lemmas.List.{take_all, length-take, length-set, get_or-take}
use Rattle.std.proofs.lemmas.List.Elements.{Contains-get_or}
use Rattle.schema_build_graph.specs.declared.search.State.TheVariants.{Done}
use Rattle.schema_build_graph.specs.Search.{state_at}
use Rattle.schema_build_graph.proofs.States.{marked_next, others_next, each_next}
use Rattle.schema_build_graph.proofs.search.mark_done.Goals as goal

pub loop-vertex-preserved : goal.loop-vertex-preserved
loop-vertex-preserved c =
    let l = c.loop-vertex in
    let vs = c.args.vertices.now in
    let i = l.vertex-index in
    let lt : i < length vs = c.loop-vertex-test.true in
    let h : get_or vs i 0 < length l.states = omega (arith, l.invariant.same, c.requires i 0 lt) in
    let here : Contains (take (i + 1) vs) (get_or vs i 0) = subst (Contains (take (i + 1) vs))
    (get_or-take (i + 1) vs i 0 (omega arith))
    (Contains-get_or (take (i + 1) vs) i 0 (omega (arith, length-take (i + 1) vs))) in
    record {
      same = omega (arith, length-set l.states (get_or vs i 0) (Done c.args.cyclic), l.invariant.same);
      marked = marked_next l.states vs i c.args.cyclic lt h l.invariant.marked;
      others = others_next c.args.states.now l.states vs i (Done c.args.cyclic) lt here l.invariant.others;
      each = each_next c.args.states.now l.states (get_or vs i 0) c.args.cyclic h l.invariant.each;
    }

pub returns-clause-marked : goal.returns-clause-marked
returns-clause-marked c = subst (All (λ v. state_at c.loop-vertex.states v ≡ Done c.args.cyclic))
    (take_all c.loop-vertex.vertex-index c.args.vertices.now c.loop-vertex-test.false) c.loop-vertex.invariant.marked

pub returns-clause-others : goal.returns-clause-others
returns-clause-others c = λ v none. c.loop-vertex.invariant.others v
    (λ m. none (subst (λ xs. Contains xs v)
    (take_all c.loop-vertex.vertex-index c.args.vertices.now c.loop-vertex-test.false) m))
