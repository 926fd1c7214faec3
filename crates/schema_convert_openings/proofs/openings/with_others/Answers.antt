use Rattle.std.proofs.Common.{arith}
use Rattle.std.proofs.lemmas.Grind.{common_steps}
use Rattle.schema_convert_openings.proofs.openings.with_others.Goals as goal

pub loop-opening-preserved : goal.loop-opening-preserved
loop-opening-preserved c = record {
  decls = grind (arith, common_steps);
  entries = grind (arith, common_steps);
}
