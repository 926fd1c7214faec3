use Rattle.schema_inclusion_values.proofs.Settled.{whole}
use Rattle.schema_inclusion_reasons.proofs.Replies.{found}
use Rattle.schema_inclusion_reasons.proofs.laws.reasons_are_found.Goals as goal

pub returns : goal.returns
returns c = λ m s x h. found m (whole m s) x h
