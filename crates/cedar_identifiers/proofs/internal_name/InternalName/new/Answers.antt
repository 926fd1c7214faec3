use Rattle.std.proofs.Common.{arith}
use Rattle.std.proofs.lemmas.Grind.{common_steps}
use Rattle.cedar_identifiers.proofs.internal_name.InternalName.new.Goals as goal

pub returns-clause-components : goal.returns-clause-components
returns-clause-components c = grind (arith, common_steps)

pub returns-then-is_empty-clause-components : goal.returns-then-is_empty-clause-components
returns-then-is_empty-clause-components c = grind (arith, common_steps)
