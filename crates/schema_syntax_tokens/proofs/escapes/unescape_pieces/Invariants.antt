use Rattle.std.proofs.Common.{length, string_bytes}
use denote.Text.{Utf8}
use denote.Shadow.{shadow}
use Rattle.schema_syntax_tokens.proofs.Pieces.{HasUnescaped}
use Rattle.schema_syntax_tokens.proofs.escapes.unescape_pieces.Given as goal

abbrev pub invariant-loop-value : goal.invariant-loop-value
invariant-loop-value l = shadow (Utf8 l.rest) × HasUnescaped l.body l.rest (string_bytes l.value)

abbrev pub decreases-loop-value : goal.decreases-loop-value
decreases-loop-value l = length l.rest
