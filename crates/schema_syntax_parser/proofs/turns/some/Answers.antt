use Rattle.std.proofs.Common.{arith}
use Rattle.std.proofs.lemmas.Result.{err_from_is_err_and}
use Rattle.schema_syntax_parser.proofs.Loops.{some_fails, some_last, some_out, some_stop, some_more}
use Rattle.schema_syntax_parser.proofs.turns.some.Goals as goal

pub returns-in_err-turn : goal.returns-in_err-turn
returns-in_err-turn g c =
    let p = err_from_is_err_and c.from_residual.result c.from_residual.ensures.1 in
    rw (p.1, p.2) (some_fails g.L.Turns.turns c.args.tokens.now c.in_err-turn.field-0.0 c.in_err-turn.ensures)

pub returns-in-Done : goal.returns-in-Done
returns-in-Done g c = absurd (c.requires _ _ (rw c.in-Done.is at c.in_ok-turn.ensures))

pub returns-in-Last : goal.returns-in-Last
returns-in-Last g c =
    rw c.new.ensures (some_last g.L.Turns.turns c.args.tokens.now _ _ (rw c.in-Last.is at c.in_ok-turn.ensures))

pub returns-then-left-eq0 : goal.returns-then-left-eq0
returns-then-left-eq0 g c =
    some_out g.L.Turns.turns c.args.tokens.now _ _ (rw c.in-More.is at c.in_ok-turn.ensures)
    (omega (arith, c.if-left-eq0.true))

pub returns-in_err-others-in-More : goal.returns-in_err-others-in-More
returns-in_err-others-in-More g c =
    let p = err_from_is_err_and c.from_residual-in_err-others-in-More.result
    c.from_residual-in_err-others-in-More.ensures.1 in
    rw (p.1, p.2) (some_stop g.L.Turns.turns c.args.tokens.now _ _ (rw c.in-More.is at c.in_ok-turn.ensures) _
    (omega (arith, c.if-left-eq0.false)) c.in_err-others-in-More.field-0.0 c.in_err-others-in-More.ensures)

pub returns-in_ok-others-in-More : goal.returns-in_ok-others-in-More
returns-in_ok-others-in-More g c =
    rw c.from_parts.ensures (some_more g.L.Turns.turns c.args.tokens.now _ _ (rw c.in-More.is at c.in_ok-turn.ensures)
    _ (omega (arith, c.if-left-eq0.false)) _ _ c.in_ok-others-in-More.ensures)
