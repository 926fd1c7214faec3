use Rattle.std.proofs.Common.{◌-◌, true, arith, sym, ◌∙◌, length}
use Rattle.std.proofs.lemmas.List.{length-map}
use Rattle.cedar_names.proofs.Cost.{none_yet, halved}
use Rattle.schema_build_types.proofs.Paired.{below_paired, above_paired}
use Rattle.schema_build_types.proofs.lookups.search_counted.Goals as goal

pub loop-low-init : goal.loop-low-init
loop-low-init g c = record {
  ordered = omega arith;
  within = omega arith;
  gap = record {
    in_range = omega (arith, length-map c.args.entries.now g.E.Keyed.pair);
    below = λ k d h. absurd (omega arith);
    above = λ k d h i. absurd (omega (arith, length-map c.args.entries.now g.E.Keyed.pair));
  };
  counted = omega arith;
  cost = none_yet true c.args.steps.now (length c.args.entries.now);
}

pub loop-low-preserved-in-Less : goal.loop-low-preserved-in-Less
loop-low-preserved-in-Less g c =
    let l = c.loop-low in
    record {
      ordered = omega arith;
      within = omega arith;
      gap = below_paired g.E.Keyed.pair g.met.E.Key.Ord.total c.args.key.now c.args.entries.now l.low l.high _
          c.index-entries-middle.result c.requires l.invariant.gap (omega arith) c.index-entries-middle.is
          c.key.result.now c.key.ensures (sym c.cmp.ensures ∙ c.in-Less.is);
      counted = omega arith;
      cost = halved true c.args.steps.now l.steps c.tick.new.self (l.high - l.low) _ (length c.args.entries.now)
          c.tick.ensures l.invariant.cost (omega arith) (omega arith);
    }

pub loop-low-preserved : goal.loop-low-preserved
loop-low-preserved g c =
    let l = c.loop-low in
    record {
      ordered = omega arith;
      within = omega arith;
      gap = above_paired g.E.Keyed.pair g.met.E.Key.Ord.total c.args.key.now c.args.entries.now l.low l.high _
          c.index-entries-middle.result c.requires l.invariant.gap (omega arith) c.index-entries-middle.is
          c.key.result.now c.key.ensures (sym c.cmp.ensures ∙ c.in-Greater.is);
      counted = omega arith;
      cost = halved true c.args.steps.now l.steps c.tick.new.self (l.high - l.low) _ (length c.args.entries.now)
          c.tick.ensures l.invariant.cost (omega arith) (omega arith);
    }

pub returns-in-Equal-clause-cost : goal.returns-in-Equal-clause-cost
returns-in-Equal-clause-cost g c =
    let l = c.loop-low in
    (halved true c.args.steps.now l.steps c.tick.new.self (l.high - l.low) 0 (length c.args.entries.now)
    c.tick.ensures l.invariant.cost (omega arith) (omega arith)).cost
