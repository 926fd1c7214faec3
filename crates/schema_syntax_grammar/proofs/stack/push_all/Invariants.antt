use Rattle.std.proofs.Common.{◌≡◌, ◌++◌, drop, length, reverse, ◌≤◌}
use Rattle.schema_syntax_grammar.proofs.stack.push_all.Given as goal

abbrev pub invariant-loop-i : goal.invariant-loop-i
invariant-loop-i l =
    (l.i ≤ length l.symbols) × (reverse l.stack.items ≡ drop l.i l.symbols ++ reverse l.fn.stack.items)

abbrev pub decreases-loop-i : goal.decreases-loop-i
decreases-loop-i l = l.i
