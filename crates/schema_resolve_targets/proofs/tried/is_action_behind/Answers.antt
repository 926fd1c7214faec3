use Rattle.std.proofs.Common.{arith}
use Rattle.std.proofs.lemmas.Grind.{common_steps}
use Rattle.schema_resolve_targets.proofs.tried.is_action_behind.Goals as goal

pub returns-else-not-is_cedar : goal.returns-else-not-is_cedar
returns-else-not-is_cedar c = grind (arith, common_steps)

pub returns-then-not-is_cedar : goal.returns-then-not-is_cedar
returns-then-not-is_cedar c = grind (arith, common_steps)
