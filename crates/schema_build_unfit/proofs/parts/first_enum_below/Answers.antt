use Rattle.std.proofs.Common.{arith}
use Rattle.std.proofs.lemmas.Grind.{elements}
use Rattle.schema_build_unfit.proofs.parts.first_enum_below.Goals as goal

pub loop-name-preserved : goal.loop-name-preserved
loop-name-preserved c = grind (arith, elements)

pub returns-in-Some : goal.returns-in-Some
returns-in-Some c = grind (arith, elements)
