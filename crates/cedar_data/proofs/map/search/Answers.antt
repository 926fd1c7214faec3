use Rattle.std.proofs.lemmas.Grind.{common_steps}
use Rattle.std.proofs.Common.{arith, sym, ap, ◌∙◌}
use Rattle.cedar_data.proofs.Halving.{below_more, above_more}
use Rattle.cedar_data.proofs.map.search.Goals as goal

pub loop-low-preserved-in-Less : goal.loop-low-preserved-in-Less
loop-low-preserved-in-Less g c =
    let l = c.loop-low in
    record {
      ordered = omega arith;
      gap = below_more g.met.K.Ord.total c.args.key.now c.args.entries.now l.low l.high _
          c.index-entries-middle.result c.requires l.invariant.gap (omega arith) c.index-entries-middle.is
          (ap (λ e. g.K.Ord.cmp e.0 c.args.key.now) c.index-entries-middle.is ∙ sym c.cmp.ensures ∙ c.in-Less.is);
    }

pub loop-low-preserved : goal.loop-low-preserved
loop-low-preserved g c =
    let l = c.loop-low in
    record {
      ordered = omega arith;
      gap = above_more g.met.K.Ord.total c.args.key.now c.args.entries.now l.low l.high _
          c.index-entries-middle.result c.requires l.invariant.gap (omega arith) c.index-entries-middle.is
          (ap (λ e. g.K.Ord.cmp e.0 c.args.key.now) c.index-entries-middle.is ∙ sym c.cmp.ensures ∙ c.in-Greater.is);
    }

pub returns-in-Equal-clause-found : goal.returns-in-Equal-clause-found
returns-in-Equal-clause-found g c = grind (arith, common_steps)
