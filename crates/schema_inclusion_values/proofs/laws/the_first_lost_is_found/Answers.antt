use Rattle.schema_inclusion_values.proofs.Settled.{whole}
use Rattle.schema_inclusion_values.proofs.Inclusion.{is_inclusion}
use Rattle.schema_inclusion_values.proofs.laws.the_first_lost_is_found.Goals as goal

pub returns : goal.returns
returns c = λ old new so sn. is_inclusion old new (whole old so) (whole new sn)
