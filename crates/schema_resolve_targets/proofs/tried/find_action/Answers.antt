use Rattle.std.proofs.Common.{arith}
use Rattle.std.proofs.lemmas.Grind.{common_steps}
use Rattle.schema_resolve_targets.proofs.tried.find_action.Goals as goal

pub returns : goal.returns
returns c = grind (arith, common_steps)

pub returns-then-is_action : goal.returns-then-is_action
returns-then-is_action c = grind (arith, common_steps)

pub returns-then-is_own_action : goal.returns-then-is_own_action
returns-then-is_own_action c = grind (arith, common_steps)
