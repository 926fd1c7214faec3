use Rattle.std.proofs.Common.{arith}
use Rattle.std.proofs.lemmas.Grind.{common_steps}
use Rattle.schema_json_values.proofs.fragments.entity_members.Goals as goal

pub loop-id-preserved : goal.loop-id-preserved
loop-id-preserved g c = grind (arith, common_steps)

pub returns : goal.returns
returns g c = grind (arith, common_steps)
