use Rattle.schema_convert_faults.proofs.Lawful.{lawful}
use Rattle.schema_convert.proofs.laws.lawful_trees.Goals as goal

pub returns : goal.returns
returns c tree = lawful tree
