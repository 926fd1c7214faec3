use Rattle.std.proofs.Common.{sym, ◌∙◌}
use Rattle.std.proofs.lemmas.List.{length-map}
use Rattle.schema_syntax_grammar.proofs.Faults.{whole_sentence, fault}
use Rattle.schema_syntax_grammar.proofs.expected.fault_of.Goals as goal
use Rattle.schema_syntax_grammar.proofs.expected.fault_of.Goals.{else-front-tokens-via-then-front-tokens+else-may_end}
use Rattle.schema_syntax_grammar.proofs.expected.fault_of.Goals.{else-front-tokens-via-else-front-tokens}

pub returns-then-may_end : goal.returns-then-may_end
returns-then-may_end g c = whole_sentence _ _ _
    (c.if-front-tokens.true ∙ sym (length-map _ _)) c.in_ok-front.ensures.stack
    (sym c.may_end.ensures ∙ c.if-may_end.true)

pub returns : goal.returns
returns g c =
    fault _ _ _ _ c.in_ok-front.ensures.within c.in_ok-front.ensures.stack c.in_ok-front.ensures.stops
    (λ n. elim c.else-front-tokens.branch [
      | else-front-tokens-via-then-front-tokens+else-may_end w ↦ sym w.may_end.ensures ∙ w.if-may_end.false
      | else-front-tokens-via-else-front-tokens w ↦ absurd (w.if-front-tokens.false (n ∙ length-map _ _))
    ])
    c.in_ok-expected.ensures
