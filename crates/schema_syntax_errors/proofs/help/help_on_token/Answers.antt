use Rattle.std.proofs.Common.{arith}
use Rattle.std.proofs.lemmas.Grind.{common_steps}
use Rattle.schema_syntax_errors.proofs.help.help_on_token.Goals as goal

pub returns-then-misses_applies_to : goal.returns-then-misses_applies_to
returns-then-misses_applies_to c = grind (arith, common_steps)
