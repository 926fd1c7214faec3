use Rattle.cedar_data.specs.Text.{text_cmp}
use Rattle.cedar_data.proofs.Orders.{nothing_rises}
use Rattle.schema_inclusion_check.proofs.parts.entity_parts.Goals as goal

pub returns-in-Enum-clause-sorted : goal.returns-in-Enum-clause-sorted
returns-in-Enum-clause-sorted c = nothing_rises text_cmp

pub returns-in-External-clause-sorted : goal.returns-in-External-clause-sorted
returns-in-External-clause-sorted c = nothing_rises text_cmp
