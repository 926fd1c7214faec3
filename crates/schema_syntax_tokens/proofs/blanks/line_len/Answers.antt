use Rattle.std.proofs.Common.{arith}
use Rattle.std.proofs.lemmas.Grind.{common_steps}
use Rattle.schema_syntax_tokens.proofs.blanks.line_len.Goals as goal

pub loop-at-preserved : goal.loop-at-preserved
loop-at-preserved c = grind (arith, common_steps)

pub returns-clause-stop : goal.returns-clause-stop
returns-clause-stop c = grind (arith, common_steps)

pub returns-then-byte-eq10-clause-stop : goal.returns-then-byte-eq10-clause-stop
returns-then-byte-eq10-clause-stop c = grind (arith, common_steps)

pub returns-then-byte-eq13-clause-stop : goal.returns-then-byte-eq13-clause-stop
returns-then-byte-eq13-clause-stop c = grind (arith, common_steps)
