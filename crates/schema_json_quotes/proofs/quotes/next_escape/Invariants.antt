use Rattle.std.proofs.Common.{take}
use Rattle.schema_json_quotes.specs.Escapes.{NoneJsonEscaped}
use Rattle.schema_json_quotes.proofs.quotes.next_escape.Given as goal

abbrev pub invariant-loop-at : goal.invariant-loop-at
invariant-loop-at l = NoneJsonEscaped (take l.at l.rest)
