use Rattle.std.proofs.Common.{◌-◌, arith, sym, ap, ◌∙◌, length}
use Rattle.std.proofs.lemmas.List.{get_or_default}
use Rattle.cedar_names.proofs.Halved.{below_more, above_more}
use Rattle.cedar_names.proofs.Cost.{none_yet, halved, all_spent}
use Rattle.cedar_names.proofs.halving.find.Goals as goal

pub loop-low-init : goal.loop-low-init
loop-low-init g c = record {
  ordered = omega arith;
  within = record {
    in_range = omega arith;
    below = λ k d h. absurd (omega arith);
    above = λ k d h i. absurd (omega arith);
  };
  cost = none_yet g.C.Counter.counts (g.C.Counter.taken c.args.counter.now) (length c.args.items.now);
}

pub loop-low-preserved-in-Less : goal.loop-low-preserved-in-Less
loop-low-preserved-in-Less g c =
    let l = c.loop-low in
    record {
      ordered = omega arith;
      within = below_more (g.S.Sought.place c.args.sought.now) g.S.Sought.order (g.S.Sought.below c.args.sought.now)
          c.args.items.now l.low l.high _ c.index-items-middle.result c.requires l.invariant.within (omega arith)
          c.index-items-middle.is (sym c.compare.ensures ∙ c.in-Less.is);
      cost = halved g.C.Counter.counts _ _ _ (l.high - l.low) _ _ c.note.ensures l.invariant.cost (omega arith)
          (omega arith);
    }

pub loop-low-preserved : goal.loop-low-preserved
loop-low-preserved g c =
    let l = c.loop-low in
    record {
      ordered = omega arith;
      within = above_more (g.S.Sought.place c.args.sought.now) g.S.Sought.order (g.S.Sought.above c.args.sought.now)
          c.args.items.now l.low l.high _ c.index-items-middle.result c.requires l.invariant.within (omega arith)
          c.index-items-middle.is (sym c.compare.ensures ∙ c.in-Greater.is);
      cost = halved g.C.Counter.counts _ _ _ (l.high - l.low) _ _ c.note.ensures l.invariant.cost (omega arith)
          (omega arith);
    }

pub returns-in-Equal-clause-found : goal.returns-in-Equal-clause-found
returns-in-Equal-clause-found g c = record {
  in_range = omega arith;
  equal = λ d. ap (g.S.Sought.place c.args.sought.now)
      (get_or_default c.args.items.now _ d c.index-items-middle.result (omega arith) ∙ sym c.index-items-middle.is)
      ∙ sym c.compare.ensures ∙ c.in-Equal.is;
}

pub returns-in-Equal-clause-spent : goal.returns-in-Equal-clause-spent
returns-in-Equal-clause-spent g c =
    let l = c.loop-low in
    all_spent _ _ _ 0 _ (halved g.C.Counter.counts _ _ _ (l.high - l.low) 0 _ c.note.ensures l.invariant.cost
    (omega arith) (omega arith)) (omega arith)

pub returns-clause-spent : goal.returns-clause-spent
returns-clause-spent g c = all_spent _ _ _ (c.loop-low.high - c.loop-low.low) _ c.loop-low.invariant.cost
    (omega (arith, c.loop-low-test.false))
