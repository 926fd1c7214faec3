use Rattle.std.proofs.Common.{◌≡◌, ◌≤◌, length, reverse, take}
use Rattle.schema_syntax_grammar.specs.Machine.{step}
use Rattle.schema_syntax_grammar.proofs.stack.advance.Given as goal

abbrev pub invariant-loop-left : goal.invariant-loop-left
invariant-loop-left l =
    (l.left ≤ length l.stack.items) × (l.stack.items ≡ l.fn.stack.items)
    × (step (reverse l.stack.items) l.kind ≡ step (reverse (take l.left l.stack.items)) l.kind)

abbrev pub decreases-loop-left : goal.decreases-loop-left
decreases-loop-left l = l.left
