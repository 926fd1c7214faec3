use Rattle.std.proofs.Common.{arith}
use Rattle.std.proofs.lemmas.Grind.{common_steps}
use Rattle.schema_text_reports.proofs.faults.push_reports.Goals as goal

pub loop-fault-preserved : goal.loop-fault-preserved
loop-fault-preserved g c = grind (arith, common_steps)
