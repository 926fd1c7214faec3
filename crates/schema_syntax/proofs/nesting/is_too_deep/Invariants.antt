use Rattle.std.proofs.Common.{◌≡◌, ◌≤◌, drop}
use Rattle.schema_syntax_tokens.specs.TokenLists.{kinds_of}
use Rattle.schema_syntax.proofs.Depths.{deep_from}
use Rattle.schema_syntax.proofs.nesting.is_too_deep.Given as goal

abbrev pub invariant-loop-token : goal.invariant-loop-token
invariant-loop-token l =
    (deep_from l.opened l.closed (kinds_of (drop l.token-index l.tokens)) ≡ deep_from 0 0 (kinds_of l.tokens))
    × (l.opened ≤ l.token-index) × (l.closed ≤ l.token-index)
