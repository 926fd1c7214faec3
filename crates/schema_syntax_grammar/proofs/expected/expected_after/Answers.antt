use Rattle.schema_syntax_grammar.proofs.Faults.{cut_short, expected}
use Rattle.schema_syntax_grammar.proofs.expected.expected_after.Goals as goal

pub returns-then-front-kinds : goal.returns-then-front-kinds
returns-then-front-kinds c = cut_short _ _ _ c.if-front-kinds.true c.in_ok-front.ensures.stack
    c.in_ok-front.ensures.stops

pub returns : goal.returns
returns c = expected _ _ _ _ c.in_ok-front.ensures.within c.if-front-kinds.false c.in_ok-front.ensures.stack
    c.in_ok-allowed.ensures
