use Rattle.schema_json.proofs.Same.{action_same}
use Rattle.schema_json.proofs.action_type.ActionEntityUIDCloneIn.clone_in.Goals as goal

pub returns : goal.returns
returns g c = action_same _ _ _ _ c.in_ok-clone_in.ensures c.in_ok-clone_in-2.ensures
