use Rattle.std.proofs.Common.{rules}
use Rattle.schema_syntax_errors.proofs.expected.printed_kinds.Goals as goal

pub returns-else-expects : goal.returns-else-expects
returns-else-expects c = search rules

pub returns-then-expects : goal.returns-then-expects
returns-then-expects c = search rules
