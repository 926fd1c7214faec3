use Rattle.std.proofs.Common.{length}
use denote.Text.{Utf8}
use denote.Shadow.{shadow}
use Rattle.schema_syntax_tokens.proofs.Whole.{HasScanned}
use Rattle.schema_syntax_tokens.proofs.scanner.scan_short.Given as goal

abbrev pub invariant-loop-tokens : goal.invariant-loop-tokens
invariant-loop-tokens l = shadow (Utf8 l.rest) × HasScanned l.text l.rest l.tokens.items

abbrev pub decreases-loop-tokens : goal.decreases-loop-tokens
decreases-loop-tokens l = length l.rest
