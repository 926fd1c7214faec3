use Rattle.std.proofs.Common.{arith}
use Rattle.std.proofs.lemmas.Grind.{common_steps}
use Rattle.schema_build_recovered.proofs.entity_types.recovered_entity_type.Goals as goal

pub returns-clause-recovered : goal.returns-clause-recovered
returns-clause-recovered c = grind (arith, common_steps)
