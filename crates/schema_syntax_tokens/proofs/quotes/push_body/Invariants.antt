use Rattle.std.proofs.Common.{length}
use denote.Text.{Utf8}
use denote.Shadow.{shadow}
use Rattle.std.specs.Str.{chars}
use Rattle.schema_syntax_tokens.specs.Quotes.{quoted_body, HasWritten}
use Rattle.schema_syntax_tokens.proofs.quotes.push_body.Given as goal

abbrev pub invariant-loop-at : goal.invariant-loop-at
invariant-loop-at l = shadow (Utf8 l.rest)
    × HasWritten l.initial.text l.text (chars (quoted_body (chars l.value))) (chars (quoted_body (chars l.rest)))

abbrev pub decreases-loop-at : goal.decreases-loop-at
decreases-loop-at l = length l.rest
