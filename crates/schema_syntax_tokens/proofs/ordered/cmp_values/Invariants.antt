use Rattle.std.proofs.Common.{length}
use denote.Text.{Utf8}
use denote.Shadow.{shadow}
use Rattle.schema_syntax_tokens.proofs.Sorted.{AreOrdered}
use Rattle.schema_syntax_tokens.proofs.ordered.cmp_values.Given as goal

abbrev pub invariant-loop-first : goal.invariant-loop-first
invariant-loop-first l = shadow (Utf8 l.one) × shadow (Utf8 l.other) × AreOrdered l.left l.right l.one l.other

abbrev pub decreases-loop-first : goal.decreases-loop-first
decreases-loop-first l = length l.one
