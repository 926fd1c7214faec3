use Rattle.cedar_data.specs.Text.{text_cmp}
use Rattle.cedar_data.proofs.Orders.{nothing_rises}
use Rattle.schema_inclusion_check.proofs.parts.context_attributes.Goals as goal

pub returns-in-Never-clause-sorted : goal.returns-in-Never-clause-sorted
returns-in-Never-clause-sorted c = nothing_rises text_cmp

pub returns-in-Long-clause-sorted : goal.returns-in-Long-clause-sorted
returns-in-Long-clause-sorted c = nothing_rises text_cmp

pub returns-in-Entity-clause-sorted : goal.returns-in-Entity-clause-sorted
returns-in-Entity-clause-sorted c = nothing_rises text_cmp
