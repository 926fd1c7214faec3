use Rattle.schema_inclusion_values.proofs.Settled.{whole, whole_type}
use Rattle.schema_inclusion_values.proofs.Inclusion.{type_has_value}
use Rattle.schema_inclusion_values.proofs.laws.types_of_meanings_have_values.Goals as goal

pub returns : goal.returns
returns c = λ m s t o k. type_has_value m (whole m s) t (whole_type m t o k)
