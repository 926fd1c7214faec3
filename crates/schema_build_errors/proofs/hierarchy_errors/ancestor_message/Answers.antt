use Rattle.std.proofs.Common.{arith}
use Rattle.std.proofs.lemmas.Grind.{elements}
use Rattle.schema_build_errors.proofs.hierarchy_errors.ancestor_message.Goals as goal

pub returns : goal.returns
returns c = grind (arith, elements)
