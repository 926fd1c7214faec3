use Rattle.cedar_data.specs.Text.{text_cmp}
use Rattle.cedar_data.proofs.Orders.{nothing_rises}
use Rattle.schema_inclusion_types.proofs.lost.lost_empty.Goals as goal

pub all_required-requires-clause-old_sorted : goal.all_required-requires-clause-old_sorted
all_required-requires-clause-old_sorted c = nothing_rises text_cmp
