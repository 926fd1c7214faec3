use Rattle.std.proofs.Common.{arith}
use Rattle.std.proofs.lemmas.Grind.{elements}
use Rattle.schema_build_errors.proofs.declared_errors.shadowing_text.Goals as goal

pub returns : goal.returns
returns c = grind (arith, elements)
