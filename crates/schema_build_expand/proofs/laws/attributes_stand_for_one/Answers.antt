use Rattle.schema_build_expand.proofs.Once.{all_once}
use Rattle.schema_build_expand.proofs.laws.attributes_stand_for_one.Goals as goal

pub returns : goal.returns
returns g c = all_once g.row.N.Denot
