use Rattle.std.proofs.Common.{arith}
use Rattle.std.proofs.lemmas.Grind.{common_steps}
use Rattle.schema_convert_types.proofs.types.+types.Goals as goal

pub record_of-loop-attribute-preserved : goal.record_of-loop-attribute-preserved
record_of-loop-attribute-preserved t c = grind (arith, common_steps)

pub record_of-returns : goal.record_of-returns
record_of-returns t c = grind (arith, common_steps)

pub record_of-returns-then-is_empty : goal.record_of-returns-then-is_empty
record_of-returns-then-is_empty t c = grind (arith, common_steps)
