use Rattle.schema_syntax_parser.specs.Reading.{tags_at}
use Rattle.std.proofs.Common.{arith}
use Rattle.std.proofs.lemmas.Grind.{common_steps}
use Rattle.schema_syntax_parser.proofs.types.tags.Goals as goal

pub returns-in_err-ty-in-len1-up : goal.returns-in_err-ty-in-len1-up
unfolding tags_at
returns-in_err-ty-in-len1-up c = grind (arith, common_steps)

pub returns-in_ok-ty-in-len1-up-2 : goal.returns-in_ok-ty-in-len1-up-2
unfolding tags_at
returns-in_ok-ty-in-len1-up-2 c = grind (arith, common_steps)
