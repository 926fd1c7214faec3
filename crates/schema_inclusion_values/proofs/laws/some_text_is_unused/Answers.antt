use Rattle.schema_inclusion_values.proofs.Ids.{least_unused}
use Rattle.schema_inclusion_values.proofs.laws.some_text_is_unused.Goals as goal

pub returns : goal.returns
returns c = λ choices. least_unused choices
