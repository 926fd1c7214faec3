use Rattle.schema_json.proofs.Same.{action_same}
use Rattle.schema_convert_fragments.proofs.actions.ParentsItem.translate.Goals as goal

pub returns : goal.returns
returns c = action_same _ _ _ _ c.in_ok-id.ensures c.in_ok-ty.ensures
