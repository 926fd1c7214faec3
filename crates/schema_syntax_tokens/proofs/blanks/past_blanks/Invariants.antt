use Rattle.std.proofs.Common.{length, ◌≤◌}
use denote.Text.{Utf8}
use denote.Shadow.{shadow}
use Rattle.schema_syntax_tokens.specs.Scans.{Skips}
use Rattle.schema_syntax_tokens.proofs.blanks.past_blanks.Given as goal

abbrev pub invariant-loop-after : goal.invariant-loop-after
invariant-loop-after l = shadow (Utf8 l.rest) × Skips l.text l.rest × (length l.rest ≤ length l.text)

abbrev pub decreases-loop-after : goal.decreases-loop-after
decreases-loop-after l = length l.rest
