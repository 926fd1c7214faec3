use Rattle.std.proofs.Common.{arith}
use Rattle.std.proofs.lemmas.Grind.{common_steps}
use Rattle.schema_compat_convert.proofs.fragments.convert_entry.Goals as goal

pub returns-in_err-namespace : goal.returns-in_err-namespace
returns-in_err-namespace c = grind (arith, common_steps)
