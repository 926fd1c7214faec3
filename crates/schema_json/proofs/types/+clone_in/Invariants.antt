use Rattle.std.proofs.Common.{◌≡◌, ◌+◌, ◌*◌, take}
use Rattle.std.specs.Map.{values_of}
use denote.Param.Weighed.{most}
use Rattle.schema_json.specs.declared.types.TypeOfAttribute.{size-TypeOfAttribute}
use Rattle.schema_json.proofs.types.+clone_in.Given as goal

abbrev pub decreases-RecordTypeCloneIn::clone_in : goal.decreases-RecordTypeCloneIn::clone_in
decreases-RecordTypeCloneIn::clone_in g l = 2 * goal.size-RecordTypeCloneIn::clone_in g l

abbrev pub decreases-TypeCloneIn::clone_in : goal.decreases-TypeCloneIn::clone_in
decreases-TypeCloneIn::clone_in g l = 2 * goal.size-TypeCloneIn::clone_in g l

abbrev pub decreases-TypeOfAttributeCloneIn::clone_in :
    goal.decreases-TypeOfAttributeCloneIn::clone_in
decreases-TypeOfAttributeCloneIn::clone_in g l = 2 * goal.size-TypeOfAttributeCloneIn::clone_in g l

abbrev pub decreases-TypeVariantCloneIn::clone_in : goal.decreases-TypeVariantCloneIn::clone_in
decreases-TypeVariantCloneIn::clone_in g l = 2 * goal.size-TypeVariantCloneIn::clone_in g l

abbrev pub decreases-clone_attributes : goal.decreases-clone_attributes
decreases-clone_attributes g l = 2 * most (size-TypeOfAttribute g.row.N.Denot) (values_of l.entries.now) + 1

abbrev pub invariant-clone_attributes-loop-name : goal.invariant-clone_attributes-loop-name
invariant-clone_attributes-loop-name g l = l.copy.items ≡ take l.name-index l.entries
