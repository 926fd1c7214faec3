use Rattle.std.proofs.Common.{arith}
use Rattle.std.proofs.lemmas.Grind.{common_steps}
use Rattle.schema_syntax_errors.proofs.user_error.UserErrorPartialEq.eq.Goals as goal

pub returns-in-EmptyList-EmptyList : goal.returns-in-EmptyList-EmptyList
returns-in-EmptyList-EmptyList c = grind (arith, common_steps)
