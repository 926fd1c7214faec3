use Rattle.std.proofs.Common.{arith}
use Rattle.std.proofs.lemmas.Grind.{common_steps}
use Rattle.schema_convert_fragments.proofs.room.room_for.Goals as goal

pub loop-decl-preserved : goal.loop-decl-preserved
loop-decl-preserved c = record {
  commons = grind (arith, common_steps);
  entities = grind (arith, common_steps);
  actions = grind (arith, common_steps);
}

pub returns-clause-actions : goal.returns-clause-actions
returns-clause-actions c = grind (arith, common_steps)

pub returns-clause-commons : goal.returns-clause-commons
returns-clause-commons c = grind (arith, common_steps)

pub returns-clause-entities : goal.returns-clause-entities
returns-clause-entities c = grind (arith, common_steps)
