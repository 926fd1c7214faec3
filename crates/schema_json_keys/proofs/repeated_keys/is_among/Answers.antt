use Rattle.std.proofs.Common.{arith}
use Rattle.std.proofs.lemmas.Grind.{common_steps}
use Rattle.schema_json_keys.proofs.repeated_keys.is_among.Goals as goal

pub loop-member-preserved : goal.loop-member-preserved
loop-member-preserved c = grind (arith, common_steps)

pub returns : goal.returns
returns c = grind (arith, common_steps)

pub returns-then-same_bytes : goal.returns-then-same_bytes
returns-then-same_bytes c = grind (arith, common_steps)
