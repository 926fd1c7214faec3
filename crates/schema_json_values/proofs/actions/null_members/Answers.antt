use Rattle.std.proofs.Common.{arith}
use Rattle.std.proofs.lemmas.Grind.{common_steps}
use Rattle.schema_json_values.proofs.actions.null_members.Goals as goal

pub returns : goal.returns
returns c = grind (arith, common_steps)
