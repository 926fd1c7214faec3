use Rattle.std.proofs.Common.{arith}
use Rattle.std.proofs.lemmas.Grind.{common_steps}
use Rattle.schema_generate.proofs.text.push_entity.Goals as goal

pub returns : goal.returns
returns c = grind (arith, common_steps)
