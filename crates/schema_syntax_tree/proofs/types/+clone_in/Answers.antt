use Rattle.std.proofs.Common.{arith}
use Rattle.std.proofs.lemmas.Grind.{common_steps}
use Rattle.schema_syntax_tree.proofs.types.+clone_in.Goals as goal

pub clone_attributes-loop-attribute-preserved : goal.clone_attributes-loop-attribute-preserved
clone_attributes-loop-attribute-preserved t c = grind (arith, common_steps)

pub clone_attributes-returns : goal.clone_attributes-returns
clone_attributes-returns t c = grind (arith, common_steps)
