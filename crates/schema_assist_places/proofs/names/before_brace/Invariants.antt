use Rattle.std.proofs.Common.{◌≡◌, ◌≤◌, ◌+◌, length, drop}
use Rattle.schema_assist_places.specs.Names.{before_brace}
use Rattle.schema_assist_places.proofs.names.before_brace.Given as goal

abbrev pub invariant-loop-i : goal.invariant-loop-i
invariant-loop-i g l = (l.i ≤ length l.tokens) × (l.n ≤ length l.tokens)
    × (l.n ≡ l.i + before_brace g.T.HasKind.kind_of (drop l.i l.tokens))

abbrev pub decreases-loop-i : goal.decreases-loop-i
decreases-loop-i g l = l.i
