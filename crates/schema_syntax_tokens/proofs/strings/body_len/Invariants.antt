use Rattle.std.proofs.Common.{length, ◌-◌}
use Rattle.schema_syntax_tokens.proofs.Bodies.{HasPieces}
use Rattle.schema_syntax_tokens.proofs.strings.body_len.Given as goal

abbrev pub invariant-loop-at : goal.invariant-loop-at
invariant-loop-at l = HasPieces l.rest l.at

abbrev pub decreases-loop-at : goal.decreases-loop-at
decreases-loop-at l = length l.rest - l.at
