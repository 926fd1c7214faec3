use Rattle.std.proofs.Common.{arith}
use Rattle.std.proofs.lemmas.Grind.{common_steps}
use Rattle.schema_convert_faults.proofs.faults.first_common.Goals as goal

pub returns : goal.returns
returns c = grind (arith, common_steps)
