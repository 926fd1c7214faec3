use Rattle.std.proofs.Common.{arith}
use Rattle.std.proofs.lemmas.Result.{err_from_is_err_and}
use Rattle.schema_syntax_parser.proofs.Loops.{turn_fails, turn_done, turn_last, turn_more, attrs_more, attrs_none}
use Rattle.schema_syntax_parser.proofs.Loops.{type_none, type_more}
use Rattle.schema_syntax_parser.proofs.types.+types.Goals as goal

pub attrs-returns-in_err-after : goal.attrs-returns-in_err-after
attrs-returns-in_err-after t c =
    let p = err_from_is_err_and c.from_residual.result c.from_residual.ensures.1 in
    rw (p.1, p.2) (turn_fails _ _ _ _
    (rw (attrs_more c.loop-left.left c.loop-left.rest.now c.loop-left-test.true) at c.loop-left.invariant.1)
    c.in_err-after.field-0.0 c.in_err-after.ensures)

pub attrs-returns-in-Done : goal.attrs-returns-in-Done
attrs-returns-in-Done t c =
    rw c.from_vec.ensures (turn_done _ _ _ _
    (rw (attrs_more c.loop-left.left c.loop-left.rest.now c.loop-left-test.true) at
    c.loop-left.invariant.1) _ (rw c.in-Done.is at c.in_ok-after.ensures))

pub attrs-returns-in-Last : goal.attrs-returns-in-Last
attrs-returns-in-Last t c =
    rw (c.from_vec-in-Last.ensures, c.in_ok-push_item-in-Last.ensures)
    (turn_last _ _ _ _ (rw (attrs_more c.loop-left.left c.loop-left.rest.now c.loop-left-test.true) at
    c.loop-left.invariant.1) _ _ (rw c.in-Last.is at c.in_ok-after.ensures))

pub attrs-loop-left-preserved : goal.attrs-loop-left-preserved
attrs-loop-left-preserved t c =
    let step = turn_more _ _ _ _ (rw (attrs_more c.loop-left.left c.loop-left.rest.now c.loop-left-test.true) at
    c.loop-left.invariant.1) _ _ (rw c.in-More.is at c.in_ok-after.ensures) in
    (omega (arith, c.loop-left.invariant.0), rw c.in_ok-push-in-More.ensures.items step)

pub attrs-returns : goal.attrs-returns
attrs-returns t c = attrs_none _ _ _ _ c.loop-left-test.false c.loop-left.invariant.1

pub ty-returns-then-depth-eq0 : goal.ty-returns-then-depth-eq0
ty-returns-then-depth-eq0 t c = type_none _ _ c.if-depth-eq0.true

pub ty-returns : goal.ty-returns
ty-returns t c = rw (type_more c.args.depth c.args.tokens.now c.if-depth-eq0.false) c.type_of_parts.ensures
