use Rattle.std.proofs.Common.{List, ℕ, length}
use denote.Text.{Utf8}
use denote.Shadow.{shadow}
use Rattle.schema_syntax_tokens.proofs.Pieces.{HasUnescaped}
use Rattle.schema_syntax_tokens.proofs.walks.check_escapes.Given as goal

abbrev pub invariant-loop-after : goal.invariant-loop-after
invariant-loop-after l = shadow (Utf8 l.rest) × ((written : List ℕ) × HasUnescaped l.body l.rest written)

abbrev pub decreases-loop-after : goal.decreases-loop-after
decreases-loop-after l = length l.rest
