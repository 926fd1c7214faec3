use Rattle.schema_syntax_parser.specs.Reading.{decl_turn}
use Rattle.std.proofs.Common.{arith}
use Rattle.std.proofs.lemmas.Grind.{common_steps}
use Rattle.schema_syntax_parser.proofs.items.DeclsTurns.turn.Goals as goal

pub returns-in-len1-up : goal.returns-in-len1-up
unfolding decl_turn
returns-in-len1-up c = grind (arith, common_steps)

pub returns-in_ok-item-in_default : goal.returns-in_ok-item-in_default
unfolding decl_turn
returns-in_ok-item-in_default c = grind (arith, common_steps)
