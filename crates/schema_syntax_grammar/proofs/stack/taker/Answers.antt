use Rattle.std.proofs.Common.{arith}
use Rattle.std.proofs.lemmas.Grind.{common_steps}
use Rattle.schema_syntax_grammar.proofs.stack.taker.Goals as goal

pub loop-left-init : goal.loop-left-init
loop-left-init c = grind (arith, common_steps)

pub loop-left-preserved : goal.loop-left-preserved
loop-left-preserved c = grind (arith, common_steps)

pub returns-in-Some-clause-step : goal.returns-in-Some-clause-step
returns-in-Some-clause-step c = grind (arith, common_steps)

pub returns-then-not-is_nullable-clause-step : goal.returns-then-not-is_nullable-clause-step
returns-then-not-is_nullable-clause-step c = grind (arith, common_steps)
