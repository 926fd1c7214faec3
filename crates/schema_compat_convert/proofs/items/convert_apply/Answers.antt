use Rattle.std.proofs.Common.{arith}
use Rattle.std.proofs.lemmas.Grind.{common_steps}
use Rattle.schema_compat_convert.proofs.items.convert_apply.Goals as goal

pub returns-in_err-principal_types : goal.returns-in_err-principal_types
returns-in_err-principal_types c = grind (arith, common_steps)
