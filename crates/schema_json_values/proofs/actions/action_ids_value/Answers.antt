use Rattle.std.proofs.Common.{arith}
use Rattle.std.proofs.lemmas.Grind.{common_steps}
use Rattle.schema_json_values.proofs.actions.action_ids_value.Goals as goal

pub loop-action-preserved : goal.loop-action-preserved
loop-action-preserved g c = grind (arith, common_steps)
