use Rattle.std.proofs.Common.{◌≡◌, true, ◌∷◌, [], ◌++◌, ◌<◌, false, length, get_or, sym, ap, ◌∙◌, subst, arith, All}
use Rattle.std.proofs.Common.{Contains}
use Rattle.std.proofs.lemmas.List.{get_or_default, take_all}
use Rattle.std.proofs.lemmas.List.Elements.{All-push, All-weaker}
use Rattle.schema_build_graph.specs.Needed.{IsWanted}
use Rattle.schema_build_graph.specs.Order.{StandBehind, is_marked}
use Rattle.schema_build_graph.proofs.Fronts.{kept_more, below_more, whole_more, whole_same}
use Rattle.schema_build_graph.proofs.kept.needed.Goals as goal
use Rattle.schema_build_graph.proofs.kept.needed.Goals.{then-index+in_ok-push, else-index}

pub loop-vertex-preserved : goal.loop-vertex-preserved
loop-vertex-preserved c =
    let l = c.loop-vertex in
    let graph = c.args.graph.now in
    let order = c.args.order.now in
    let marks = c.in_ok-marks.marks.items in
    let closed = c.in_ok-marks.ensures.closed in
    let old = l.kept.items in
    let i = l.vertex-index in
    let lt : i < length order = c.loop-vertex-test.true in
    let after = c.if-index.kept.items in
    let v = get_or order i 0 in
    let inside : v < length marks = omega (arith, c.requires.order.below i 0 lt, c.in_ok-marks.ensures.same) in
    let read : is_marked marks v ≡ c.index.result.now =
    get_or_default marks v false c.index.result.now inside ∙ sym c.index.ensures in
    elim c.if-index.branch [
      | then-index+in_ok-push w ↦
          let grown : after ≡ old ++ get_or order i 0 ∷ [] = ap (λ v. v.items) w.kept-is ∙ w.in_ok-push.ensures.items in
          record {
            below = subst (All (λ v. v < length graph)) (sym grown)
                (below_more graph order c.requires.order marks closed old i lt l.invariant.whole l.invariant.below);
            behind = subst (StandBehind graph) (sym grown)
                (kept_more graph order c.requires.order marks closed old i lt l.invariant.whole (read ∙ w.if-index.true)
                l.invariant.behind);
            whole = λ v d m. subst (λ k. Contains k v) (sym grown)
                (whole_more graph order c.requires.order marks closed old i lt l.invariant.whole v d m);
            only = subst (All (λ v. is_marked marks v ≡ true)) (sym grown)
                (All-push (λ v. is_marked marks v ≡ true) old v l.invariant.only (read ∙ w.if-index.true));
          }
      | else-index w ↦
          let same : after ≡ old = ap (λ v. v.items) w.kept-is in
          record {
            below = subst (All (λ v. v < length graph)) (sym same) l.invariant.below;
            behind = subst (StandBehind graph) (sym same) l.invariant.behind;
            whole = λ v d m. subst (λ k. Contains k v) (sym same)
                (whole_same graph order c.requires.order marks closed old i lt l.invariant.whole
                (read ∙ w.if-index.false) v d m);
            only = subst (All (λ v. is_marked marks v ≡ true)) (sym same) l.invariant.only;
          }
    ]

pub returns-clause-roots : goal.returns-clause-roots
returns-clause-roots c = λ k d h.
    let order = c.args.order.now in
    let v = get_or c.args.roots.now k d in
    let there : Contains order v = c.requires.order.whole v (c.requires.roots k d h) in
    c.loop-vertex.invariant.whole v
    (subst (λ xs. Contains xs v) (sym (take_all c.loop-vertex.vertex-index order c.loop-vertex-test.false)) there)
    (c.in_ok-marks.ensures.roots k d h)

pub returns-clause-only : goal.returns-clause-only
returns-clause-only c =
    All-weaker (λ v. is_marked c.in_ok-marks.marks.items v ≡ true) (IsWanted c.args.graph.now c.args.roots.now)
    c.in_ok-marks.ensures.only c.loop-vertex.kept.items c.loop-vertex.invariant.only
