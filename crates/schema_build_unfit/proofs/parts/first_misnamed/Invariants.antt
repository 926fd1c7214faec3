use Rattle.std.specs.List.{AllWithin}
use Rattle.schema_build_unfit.specs.Parts.{IsMisnamed}
use Rattle.schema_build_unfit.proofs.parts.first_misnamed.Given as goal

abbrev pub invariant-loop-uid : goal.invariant-loop-uid
invariant-loop-uid l = AllWithin (λ a. IsMisnamed a → ⊥) l.actions 0 l.uid-index
