use Rattle.cedar_identifiers.proofs.Same.{name_same}
use Rattle.cedar_identifiers.proofs.name.NameCloneIn.clone_in.Goals as goal

pub returns : goal.returns
returns c = name_same _ _ c.in_ok-clone_in.ensures
