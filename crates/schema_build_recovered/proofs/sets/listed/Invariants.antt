use Rattle.std.proofs.Common.{◌≡◌, ◌++◌, length}
use Rattle.schema_build_recovered.proofs.sets.listed.Given as goal

abbrev pub invariant-loop-item : goal.invariant-loop-item
invariant-loop-item g l = l.list.items ++ l.set.keys ≡ l.initial.set.keys

abbrev pub decreases-loop-item : goal.decreases-loop-item
decreases-loop-item g l = length l.set.keys
