use Rattle.schema_convert_openings.proofs.FirstRepeat.{none_found, some_found}
use Rattle.schema_convert.proofs.laws.repeats_are_first.Goals as goal

pub returns-clause-none : goal.returns-clause-none
returns-clause-none g c items = none_found g.T.Ord.cmp items

pub returns-clause-some : goal.returns-clause-some
returns-clause-some g c items first repeat = some_found g.T.Ord.cmp items first repeat
