use Rattle.schema_assist_places.proofs.Tracing.{one_place}
use Rattle.schema_assist_places.proofs.laws.one_place.Goals as goal

pub returns : goal.returns
returns c = one_place
