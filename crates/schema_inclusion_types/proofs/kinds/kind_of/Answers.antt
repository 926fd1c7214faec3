use Rattle.cedar_data.specs.Text.{text_cmp}
use Rattle.cedar_data.proofs.Orders.{nothing_rises}
use Rattle.schema_inclusion_types.proofs.kinds.kind_of.Goals as goal

pub returns-in-AnyEntity-clause-sorted : goal.returns-in-AnyEntity-clause-sorted
returns-in-AnyEntity-clause-sorted c = nothing_rises text_cmp
