use Rattle.schema_inclusion_values.specs.Formed.{Told}
use Rattle.schema_inclusion_values.proofs.Values.{has_some}
use Rattle.schema_inclusion_values.proofs.laws.types_have_values.Goals as goal

pub returns : goal.returns
returns c = λ fits id_of t f. has_some (Told fits) id_of t f
