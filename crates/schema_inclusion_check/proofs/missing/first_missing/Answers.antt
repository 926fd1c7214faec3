use Rattle.std.proofs.Common.{◌≡◌, true, false, cond, ap, sym, ◌∙◌}
use Rattle.std.specs.List.{list_any}
use Rattle.schema_inclusion_check.proofs.Anyone.{find_step}
use Rattle.schema_inclusion_check.proofs.missing.first_missing.Goals as goal

pub loop-item-preserved : goal.loop-item-preserved
loop-item-preserved g c =
    let news = c.args.new.now in
    record {
      within = c.in-Some.ensures.0;
      rest = c.loop-item.invariant.rest
          ∙ find_step (λ a. cond (list_any (g.T.PartialEq.eq a) news) false true) c.args.old.now c.loop-item.item-index
          c.item-item.result c.loop-item-test.true c.item-item.is false
          (ap (λ b. cond b false true) c.in-Some.ensures.1);
    }

pub returns-in-None : goal.returns-in-None
returns-in-None g c =
    let news = c.args.new.now in
    sym (c.loop-item.invariant.rest
    ∙ find_step (λ a. cond (list_any (g.T.PartialEq.eq a) news) false true) c.args.old.now c.loop-item.item-index
    c.item-item.result c.loop-item-test.true c.item-item.is true (ap (λ b. cond b false true) c.in-None.ensures))
