use Rattle.std.proofs.Common.{take}
use Rattle.std.specs.List.{All}
use Rattle.schema_syntax_tokens.specs.Scans.{IsInLine}
use Rattle.schema_syntax_tokens.proofs.blanks.line_len.Given as goal

abbrev pub invariant-loop-at : goal.invariant-loop-at
invariant-loop-at l = All IsInLine (take l.at l.rest)
