use Rattle.std.proofs.Common.{arith}
use Rattle.std.proofs.lemmas.Grind.{common_steps}
use Rattle.schema_build_errors.proofs.schema_error.SchemaError.join_nonempty.Goals as goal

pub loop-error-preserved : goal.loop-error-preserved
loop-error-preserved c = record {
  types = grind (arith, common_steps);
  actions = grind (arith, common_steps);
}
