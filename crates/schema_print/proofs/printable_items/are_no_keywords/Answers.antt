use Rattle.std.proofs.Common.{arith}
use Rattle.std.proofs.lemmas.Grind.{common_steps}
use Rattle.schema_print.proofs.printable_items.are_no_keywords.Goals as goal

pub loop-id-preserved : goal.loop-id-preserved
loop-id-preserved c = grind (arith, common_steps)

pub returns : goal.returns
returns c = grind (arith, common_steps)

pub returns-then-is_keyword_name : goal.returns-then-is_keyword_name
returns-then-is_keyword_name c = grind (arith, common_steps)
