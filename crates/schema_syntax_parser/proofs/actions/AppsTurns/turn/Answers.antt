use Rattle.schema_syntax_parser.specs.Reading.{separated_turn}
use Rattle.std.proofs.Common.{arith}
use Rattle.std.proofs.lemmas.Grind.{common_steps}
use Rattle.schema_syntax_parser.proofs.actions.AppsTurns.turn.Goals as goal

pub returns-in-len1-up : goal.returns-in-len1-up
unfolding separated_turn
returns-in-len1-up c = grind (arith, common_steps)

pub returns-in_ok-item-in_default : goal.returns-in_ok-item-in_default
unfolding separated_turn
returns-in_ok-item-in_default c = grind (arith, common_steps)
