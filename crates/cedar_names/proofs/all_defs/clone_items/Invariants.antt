use Rattle.std.proofs.Common.{◌≡◌, take}
use Rattle.cedar_names.proofs.all_defs.clone_items.Given as goal

abbrev pub invariant-loop-item : goal.invariant-loop-item
invariant-loop-item g l = l.copy.items ≡ take l.item-index l.items
