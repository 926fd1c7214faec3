use Rattle.std.specs.List.{AllWithin}
use Rattle.schema_build_unfit.specs.Parts.{IsEnumBelow}
use Rattle.schema_build_unfit.proofs.parts.first_enum_below.Given as goal

abbrev pub invariant-loop-name : goal.invariant-loop-name
invariant-loop-name l = AllWithin (λ e. IsEnumBelow e.1 → ⊥) l.entities 0 l.name-index
