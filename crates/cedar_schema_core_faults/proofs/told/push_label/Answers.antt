use Rattle.std.proofs.Common.{arith}
use Rattle.std.proofs.lemmas.Grind.{common_steps}
use Rattle.cedar_schema_core_faults.proofs.told.push_label.Goals as goal

pub returns-in_ok-around-in-Some : goal.returns-in_ok-around-in-Some
returns-in_ok-around-in-Some c = grind (arith, common_steps)

pub returns-in_ok-message-in-None : goal.returns-in_ok-message-in-None
returns-in_ok-message-in-None c = grind (arith, common_steps)
