use Rattle.std.proofs.Common.{◌≡◌, ◌+◌, ◌-◌, arith}
use Rattle.std.proofs.lemmas.Result.{err_from_is_err_and}
use Rattle.schema_syntax_parser.proofs.Loops.{many_more, turn_fails, turn_done, turn_last, turn_more, turn_out}
use Rattle.schema_syntax_parser.proofs.turns.up_to.Goals as goal

pub returns-in_err-after : goal.returns-in_err-after
returns-in_err-after g c =
    let p = err_from_is_err_and c.from_residual-in_err-after.result c.from_residual-in_err-after.ensures.1 in
    rw (p.1, p.2) (turn_fails _ _ _ _
    (rw (many_more g.L.Turns.turns c.loop-items.left c.loop-items.rest.now) at c.loop-items.invariant)
    c.in_err-after.field-0.0 c.in_err-after.ensures)

pub returns-in-Done : goal.returns-in-Done
returns-in-Done g c = (turn_done _ _ _ _ (rw (many_more g.L.Turns.turns c.loop-items.left c.loop-items.rest.now) at
    c.loop-items.invariant) _ (rw c.in-Done.is at c.in_ok-after.ensures))

pub returns-in-Last : goal.returns-in-Last
returns-in-Last g c =
    rw c.in_ok-push_item-in-Last.ensures
    (turn_last _ _ _ _ (rw (many_more g.L.Turns.turns c.loop-items.left c.loop-items.rest.now) at
    c.loop-items.invariant) _ _ (rw c.in-Last.is at c.in_ok-after.ensures))

pub returns-then-left-eq0 : goal.returns-then-left-eq0
returns-then-left-eq0 g c = turn_out g.L.Turns.turns c.loop-items.items.items c.loop-items.left c.loop-items.rest.now
    _ c.if-left-eq0.true c.loop-items.invariant _ _ (rw c.in-More.is at c.in_ok-after.ensures)

pub loop-items-preserved : goal.loop-items-preserved
loop-items-preserved g c =
    let e : c.loop-items.left - 1 + 1 ≡ c.loop-items.left = omega (arith, c.if-left-eq0.false) in
    rw (c.in_ok-push_item-in-More.ensures, e)
    (turn_more _ _ _ _ (rw (many_more g.L.Turns.turns c.loop-items.left c.loop-items.rest.now) at
    c.loop-items.invariant) _ _ (rw c.in-More.is at c.in_ok-after.ensures))
