use Rattle.std.proofs.Common.{take}
use Rattle.schema_syntax_tokens.specs.Steps.{NoneEscaped}
use Rattle.schema_syntax_tokens.proofs.quotes.next_escape.Given as goal

abbrev pub invariant-loop-at : goal.invariant-loop-at
invariant-loop-at l = NoneEscaped (take l.at l.rest)
