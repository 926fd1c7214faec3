use Rattle.std.proofs.Common.{◌≡◌, take}
use Rattle.cedar_data.proofs.non_empty.NonEmptyCloneIn.clone_in.Given as goal

abbrev pub invariant-loop-item : goal.invariant-loop-item
invariant-loop-item g l = l.tail.items ≡ take l.item-index l.item-items
