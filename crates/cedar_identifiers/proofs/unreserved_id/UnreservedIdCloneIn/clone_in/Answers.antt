use Rattle.cedar_identifiers.proofs.Same.{unreserved_id_is}
use Rattle.cedar_identifiers.proofs.unreserved_id.UnreservedIdCloneIn.clone_in.Goals as goal

pub returns : goal.returns
returns c = unreserved_id_is _ _ c.in_ok-clone_in.ensures
