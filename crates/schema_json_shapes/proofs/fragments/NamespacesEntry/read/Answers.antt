use Rattle.std.proofs.Common.{arith}
use Rattle.std.proofs.lemmas.Grind.{common_steps}
use Rattle.schema_json_shapes.proofs.fragments.NamespacesEntry.read.Goals as goal

pub returns-in_err-definition : goal.returns-in_err-definition
returns-in_err-definition c = grind (arith, common_steps)
