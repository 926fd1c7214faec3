use Rattle.cedar_data.proofs.Orders.{nothing_rises}
use Rattle.cedar_names.specs.Orders.{names_in_order, uids_in_order}
use Rattle.cedar_names.proofs.all_defs.AllDefs.new.Goals as goal

pub invariant_of-result : goal.invariant_of-result
invariant_of-result c = (
  rw c.new.ensures.items (nothing_rises names_in_order),
  (rw c.new-2.ensures.items (nothing_rises names_in_order), rw c.new-3.ensures.items (nothing_rises uids_in_order)),
)
