use Rattle.std.proofs.Common.{◌≡◌, ◌+◌, ◌<◌, ◌++◌, ◌∷◌, [], length, get_or, take, arith, All, Contains, subst, sym, ap}
use Rattle.std.proofs.Common.{◌∙◌}
use Rattle.std.proofs.lemmas.List.{take_all}
use Rattle.schema_build_graph.specs.Marks.{AddsFrom}
use Rattle.schema_build_graph.proofs.Steps.{marked_more, marked_same, added_more, covers_more, covers_same}
use Rattle.schema_build_graph.proofs.reach.add_new.Goals as goal
use Rattle.schema_build_graph.proofs.reach.add_new.Goals.{then-marks-target+in_ok-push, else-marks-target}

pub loop-target-preserved : goal.loop-target-preserved
loop-target-preserved c =
    let l = c.loop-target in
    let after = c.if-marks-target.found.items in
    let ts = c.args.targets.now in
    let i = l.target-index in
    let here : i < length ts = c.loop-target-test.true in
    let inside : get_or ts i 0 < length l.marks = omega (arith, c.requires.range i 0 here) in
    elim c.if-marks-target.branch [
      | then-marks-target+in_ok-push w ↦
          let grown : after ≡ l.found.items ++ get_or ts i 0 ∷ [] = ap (λ v. v.items) w.found-is
          ∙ w.in_ok-push.ensures.items in
          record {
            marked = marked_more c.args.stamp
                (get_or ts i 0) l.found.items l.marks after c.if-marks-target.marks l.invariant.marked inside
                w.if-marks-target.true grown w.marks-is;
            added = added_more ts c.args.found.now.items l.found.items after i here l.invariant.added grown;
            covers = covers_more ts l.found.items after i here l.invariant.covers grown;
          }
      | else-marks-target w ↦
          let same : after ≡ l.found.items = ap (λ v. v.items) w.found-is in
          record {
            marked = marked_same c.args.stamp l.found.items l.marks after c.if-marks-target.marks l.invariant.marked
                same w.marks-is;
            added = subst (AddsFrom ts c.args.found.now.items) (sym same) l.invariant.added;
            covers = subst (λ f. All (Contains f) (take (i + 1) ts)) (sym same)
                (covers_same ts l.found.items i here l.invariant.covers
                (l.invariant.marked.found_if (get_or ts i 0) inside w.if-marks-target.false));
          }
    ]

pub returns-clause-covers : goal.returns-clause-covers
returns-clause-covers c = subst (All (Contains c.loop-target.found.items))
    (take_all c.loop-target.target-index c.args.targets.now c.loop-target-test.false) c.loop-target.invariant.covers
