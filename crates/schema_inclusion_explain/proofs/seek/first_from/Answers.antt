use Rattle.std.proofs.Common.{sym, ap, ◌∙◌, arith}
use Rattle.schema_inclusion_explain.proofs.Sought.{below_until}
use Rattle.schema_inclusion_explain.proofs.seek.first_from.Goals as goal

pub loop-low-preserved-in-Less : goal.loop-low-preserved-in-Less
loop-low-preserved-in-Less g c =
    let q = c.args.key.now in
    record {
      ordered = omega arith;
      within = omega arith;
      below = below_until g.met.E.Key.Ord.total (λ x. (g.E.Keyed.pair x).0) c.args.entries.now _
          c.index-entries-middle.result q c.requires (omega arith) c.index-entries-middle.is
          (ap (λ k. g.E.Key.Ord.cmp k q) (sym c.key.ensures) ∙ (sym c.cmp.ensures ∙ c.in-Less.is));
    }
