use Rattle.schema_syntax_grammar.proofs.Faults.{cut_iff, whole}
use Rattle.schema_syntax_grammar.proofs.Main.{end_iff}
use Rattle.schema_syntax_grammar.proofs.expected.is_sentence.Goals as goal

pub returns-then-front-kinds : goal.returns-then-front-kinds
returns-then-front-kinds c = cut_iff _ _ _ c.if-front-kinds.true c.in_ok-front.ensures.stack c.in_ok-front.ensures.stops

pub returns : goal.returns
returns c =
    rw c.may_end.ensures (end_iff _ _
    (whole _ _ _ c.in_ok-front.ensures.within c.if-front-kinds.false c.in_ok-front.ensures.stack))
