use Rattle.schema_inclusion_values.proofs.Ids.{is_lost_id}
use Rattle.schema_inclusion_values.proofs.laws.lost_ids_are_found.Goals as goal

pub returns : goal.returns
returns c = λ old new ty. is_lost_id old new ty
