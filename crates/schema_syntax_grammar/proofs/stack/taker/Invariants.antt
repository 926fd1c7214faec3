use Rattle.std.proofs.Common.{◌≡◌, ◌≤◌, length, reverse, take}
use Rattle.schema_syntax_grammar.specs.Machine.{step}
use Rattle.schema_syntax_grammar.proofs.stack.taker.Given as goal

abbrev pub invariant-loop-left : goal.invariant-loop-left
invariant-loop-left l =
    (l.left ≤ length l.stack) × (step (reverse l.stack) l.kind ≡ step (reverse (take l.left l.stack)) l.kind)

abbrev pub decreases-loop-left : goal.decreases-loop-left
decreases-loop-left l = l.left
