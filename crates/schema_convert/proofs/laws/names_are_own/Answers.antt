use Rattle.schema_convert_openings.proofs.Own.{own_names}
use Rattle.schema_convert.proofs.laws.names_are_own.Goals as goal

pub returns : goal.returns
returns c tree = own_names tree
