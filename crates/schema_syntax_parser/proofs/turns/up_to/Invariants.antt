use Rattle.std.proofs.Common.{◌≡◌, ◌+◌}
use Rattle.schema_syntax_parser.specs.Reading.{many_at, with_items}
use Rattle.schema_syntax_parser.proofs.turns.up_to.Given as goal

abbrev pub invariant-loop-items : goal.invariant-loop-items
invariant-loop-items g l = with_items l.items.items (many_at g.L.Turns.turns (l.left + 1) l.rest)
    ≡ many_at g.L.Turns.turns (l.most + 1) l.tokens

abbrev pub decreases-loop-items : goal.decreases-loop-items
decreases-loop-items g l = l.left
