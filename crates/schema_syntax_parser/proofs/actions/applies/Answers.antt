use Rattle.schema_syntax_parser.specs.Reading.{applies_at}
use Rattle.std.proofs.Common.{arith}
use Rattle.std.proofs.lemmas.Grind.{common_steps}
use Rattle.schema_syntax_parser.proofs.actions.applies.Goals as goal

pub returns-in_err-apps-in-len1-up : goal.returns-in_err-apps-in-len1-up
unfolding applies_at
returns-in_err-apps-in-len1-up c = grind (arith, common_steps)

pub returns-in_ok-apps-in-len1-up : goal.returns-in_ok-apps-in-len1-up
unfolding applies_at
returns-in_ok-apps-in-len1-up c = grind (arith, common_steps)
