use Rattle.std.proofs.Common.{arith}
use Rattle.std.proofs.lemmas.Grind.{common_steps}
use Rattle.cedar_data.proofs.byte_by_byte.same_bytes.Goals as goal

pub loop-left-preserved : goal.loop-left-preserved
loop-left-preserved c = grind (arith, common_steps)

pub returns-in-empty : goal.returns-in-empty
returns-in-empty c = grind (arith, common_steps)
