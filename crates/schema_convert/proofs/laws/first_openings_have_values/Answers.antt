use Rattle.schema_convert_faults.proofs.Valued.{valued}
use Rattle.schema_convert.proofs.laws.first_openings_have_values.Goals as goal

pub returns : goal.returns
returns c key openings = valued key openings
