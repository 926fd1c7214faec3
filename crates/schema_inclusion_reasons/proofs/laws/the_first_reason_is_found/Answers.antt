use Rattle.schema_inclusion_values.proofs.Settled.{whole}
use Rattle.schema_inclusion_reasons.proofs.Replies.{replied}
use Rattle.schema_inclusion_reasons.proofs.laws.the_first_reason_is_found.Goals as goal

pub returns : goal.returns
returns c = λ m s x. replied m (whole m s) x
