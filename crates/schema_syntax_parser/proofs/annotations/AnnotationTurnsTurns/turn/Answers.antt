use Rattle.schema_syntax_parser.specs.Reading.{annotation_turn}
use Rattle.std.proofs.Common.{arith}
use Rattle.std.proofs.lemmas.Grind.{common_steps}
use Rattle.schema_syntax_parser.proofs.annotations.AnnotationTurnsTurns.turn.Goals as goal

pub returns-in_ok-key-in-len1-up : goal.returns-in_ok-key-in-len1-up
unfolding annotation_turn
returns-in_ok-key-in-len1-up c = grind (arith, common_steps)
