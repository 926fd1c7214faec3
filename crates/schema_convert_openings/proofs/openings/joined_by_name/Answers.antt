use Rattle.std.proofs.Common.{arith}
use Rattle.std.proofs.lemmas.Grind.{common_steps}
use Rattle.schema_convert_openings.proofs.openings.joined_by_name.Goals as goal

pub loop-openings-preserved : goal.loop-openings-preserved
loop-openings-preserved c = grind (arith, common_steps)

pub returns : goal.returns
returns c = grind (arith, common_steps)
