use Rattle.schema_syntax_parser.specs.Reading.{mark_at}
use Rattle.std.proofs.Common.{arith}
use Rattle.std.proofs.lemmas.Grind.{common_steps}
use Rattle.schema_syntax_parser.proofs.types.mark.Goals as goal

pub returns-in-len1-up : goal.returns-in-len1-up
unfolding mark_at
returns-in-len1-up c = grind (arith, common_steps)

pub returns-in_default : goal.returns-in_default
unfolding mark_at
returns-in_default c = grind (arith, common_steps)
