use Rattle.schema_build_expand.proofs.Once.{once}
use Rattle.schema_build_expand.proofs.laws.types_stand_for_one.Goals as goal

pub returns : goal.returns
returns g c = once g.row.N.Denot
