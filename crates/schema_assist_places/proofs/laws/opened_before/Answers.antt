use Rattle.schema_assist_places.proofs.Opened.{opened}
use Rattle.schema_assist_places.proofs.laws.opened_before.Goals as goal

pub returns : goal.returns
returns c = opened
