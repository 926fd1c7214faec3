use Rattle.std.proofs.Common.{arith}
use Rattle.std.proofs.lemmas.Grind.{common_steps}
use Rattle.schema_convert_fragments.proofs.entries.placed_keys.Goals as goal

pub loop-place-preserved : goal.loop-place-preserved
loop-place-preserved g c = record {
  keys = grind (arith, common_steps);
  in_range = grind (arith, common_steps);
}

pub returns-clause-keys : goal.returns-clause-keys
returns-clause-keys g c = grind (arith, common_steps)
