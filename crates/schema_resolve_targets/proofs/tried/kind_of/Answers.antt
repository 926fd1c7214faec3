use Rattle.std.proofs.Common.{arith}
use Rattle.std.proofs.lemmas.Grind.{common_steps}
use Rattle.schema_resolve_targets.proofs.tried.kind_of.Goals as goal

pub returns-after-not-is_common : goal.returns-after-not-is_common
returns-after-not-is_common c = grind (arith, common_steps)
