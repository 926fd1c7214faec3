use Rattle.std.proofs.Common.{arith}
use Rattle.std.proofs.lemmas.Grind.{common_steps}
use Rattle.schema_convert_faults.proofs.shadowing.push_commons.Goals as goal

pub loop-common-preserved : goal.loop-common-preserved
loop-common-preserved c = grind (arith, common_steps)

pub returns : goal.returns
returns c = grind (arith, common_steps)
