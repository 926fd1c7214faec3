use Rattle.std.proofs.Common.{arith}
use Rattle.std.proofs.lemmas.Grind.{common_steps}
use Rattle.schema_json_shapes.proofs.entity_types.check_members.Goals as goal

pub returns-in_err-check_enum : goal.returns-in_err-check_enum
returns-in_err-check_enum c = grind (arith, common_steps)
