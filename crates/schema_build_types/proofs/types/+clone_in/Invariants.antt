use Rattle.std.proofs.Common.{◌≡◌, ◌+◌, ◌*◌, take}
use Rattle.std.specs.Map.{values_of}
use denote.Param.Weighed.{most}
use Rattle.schema_build_types.specs.declared.types.Type.{size-Type}
use Rattle.schema_build_types.proofs.types.+clone_in.Given as goal

abbrev pub decreases-TypeCloneIn::clone_in : goal.decreases-TypeCloneIn::clone_in
decreases-TypeCloneIn::clone_in l = 2 * goal.size-TypeCloneIn::clone_in l

abbrev pub decreases-clone_entries : goal.decreases-clone_entries
decreases-clone_entries l = 2 * most (λ p. size-Type p.0) (values_of l.entries.now) + 1

abbrev pub invariant-clone_entries-loop-name : goal.invariant-clone_entries-loop-name
invariant-clone_entries-loop-name l = l.copy.items ≡ take l.name-index l.entries
