use Rattle.std.proofs.Common.{codes, map}
use Rattle.std.proofs.lemmas.List.{at_drop_all}
use Rattle.cedar_data.specs.Rows.{row_behind}
use Rattle.schema_build_text.specs.Growing.{then, so, begun, round, adds_all}
use Rattle.schema_build_text.proofs.Rowed.{row_step, joined_row}
use Rattle.schema_build_text.proofs.rows.push_row.Goals as goal

pub loop-item-init : goal.loop-item-init
loop-item-init g c = begun c.args.text.now _

pub loop-item-preserved : goal.loop-item-preserved
loop-item-preserved g c =
    round (then c.in_ok-push_between.ensures c.in_ok-push_to.ensures) c.loop-item.invariant
    (row_step g.T.Listed.shown (codes ", ") c.loop-item.behind c.args.items.now c.loop-item.item-index
    c.item-item.result c.loop-item-test.true c.item-item.is)

pub returns : goal.returns
returns g c =
    so (adds_all c.loop-item.invariant
    (at_drop_all (λ xs. row_behind (codes ", ") c.loop-item.behind (map g.T.Listed.shown xs)) c.args.items.now
    c.loop-item.item-index c.loop-item-test.false))
    (joined_row (codes ", ") (map g.T.Listed.shown c.args.items.now))
