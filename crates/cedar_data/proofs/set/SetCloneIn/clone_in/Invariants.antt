use Rattle.std.proofs.Common.{◌≡◌, take}
use Rattle.cedar_data.proofs.set.SetCloneIn.clone_in.Given as goal

abbrev pub invariant-loop-item : goal.invariant-loop-item
invariant-loop-item g l = l.items.items ≡ take l.item-index l.item-items
