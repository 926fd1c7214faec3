use Rattle.std.proofs.lemmas.Grind.{common_steps}
use Rattle.std.proofs.Common.{sym, subst, arith, rules}
use Rattle.schema_build_graph.specs.Search.{IsMerged}
use Rattle.schema_build_graph.proofs.Groups.{merged_none, merged_some}
use Rattle.schema_build_graph.proofs.search.merge.Goals as goal
use Rattle.schema_build_graph.proofs.search.merge.Goals.{then-loop-kept-test+else-index-place, else-loop-kept-test}

pub returns : goal.returns
returns c =
    let l = c.loop-kept in
    let xs = c.args.groups.now.items in
    subst (IsMerged c.args.place xs) (sym c.truncate.ensures.items) (elim c.loop-kept-test.branch [
      | then-loop-kept-test+else-index-place w ↦ merged_some xs l.kept c.args.place w.index.result.now c.requires
          l.invariant.within w.loop-kept-test.true w.index.ensures w.if-index-place.false l.invariant.behind
      | else-loop-kept-test w ↦ merged_none xs l.kept c.args.place
          (omega (arith, w.loop-kept-test.false)) l.invariant.behind
    ])

pub loop-kept-init : goal.loop-kept-init
loop-kept-init c = record {
  within = search rules;
  behind = grind (arith, common_steps);
}

pub loop-kept-preserved : goal.loop-kept-preserved
loop-kept-preserved c = record {
  within = search rules;
  behind = grind (arith, common_steps);
}
