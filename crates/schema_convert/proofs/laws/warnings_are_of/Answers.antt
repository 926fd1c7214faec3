use Rattle.schema_convert_faults.proofs.Warnings.{warned}
use Rattle.schema_convert.proofs.laws.warnings_are_of.Goals as goal

pub returns : goal.returns
returns c tree table w h = warned tree table w h
