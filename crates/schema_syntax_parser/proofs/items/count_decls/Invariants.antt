use Rattle.std.proofs.Common.{◌≤◌}
use Rattle.schema_syntax_parser.proofs.items.count_decls.Given as goal

abbrev pub invariant-loop-token : goal.invariant-loop-token
invariant-loop-token l = l.count ≤ l.token-index
