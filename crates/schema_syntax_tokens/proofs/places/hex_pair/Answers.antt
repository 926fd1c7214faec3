use Rattle.std.proofs.Common.{arith}
use Rattle.std.proofs.lemmas.Grind.{common_steps}
use Rattle.schema_syntax_tokens.proofs.places.hex_pair.Goals as goal

pub returns-else-code-gt127 : goal.returns-else-code-gt127
returns-else-code-gt127 c = grind (arith, common_steps)
