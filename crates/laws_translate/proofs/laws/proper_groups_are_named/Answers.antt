use Rattle.laws_translate.proofs.Proper.{groups_named}
use Rattle.laws_translate.proofs.laws.proper_groups_are_named.Goals as goal

pub returns : goal.returns
returns c = λ groups h. groups_named groups h
