use Rattle.std.proofs.Common.{arith}
use Rattle.std.proofs.lemmas.Grind.{common_steps}
use Rattle.schema_resolve_errors.proofs.joining.add_all.Goals as goal

pub loop-item-init : goal.loop-item-init
loop-item-init g c = grind (arith, common_steps)
