use Rattle.std.proofs.Common.{◌≡◌, ◌≤◌, length, reverse, take}
use Rattle.schema_syntax_grammar.specs.Machine.{all_nullable}
use Rattle.schema_syntax_grammar.proofs.stack.may_end.Given as goal

abbrev pub invariant-loop-left : goal.invariant-loop-left
invariant-loop-left l =
    (l.left ≤ length l.stack) × (all_nullable (reverse l.stack) ≡ all_nullable (reverse (take l.left l.stack)))

abbrev pub decreases-loop-left : goal.decreases-loop-left
decreases-loop-left l = l.left
