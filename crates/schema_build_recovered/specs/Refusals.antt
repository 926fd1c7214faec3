-- Why no fragment is recovered of a built schema.
use Rattle.std.specs.Prelude.{◌≡◌, List, []}
use Rattle.schema_build_types.specs.Lacks.{Lack}
use Rattle.schema_build_errors.specs.declared.recovery_error.RecoveryError.{RecoveryError}
use Rattle.schema_build_errors.specs.declared.recovery_error.RecoveryError.TheVariants as error
use Rattle.schema_build_errors.specs.declared.recovery_error.ToTextError.{ToTextError}
use Rattle.schema_build_errors.specs.declared.recovery_error.ToTextError.TheVariants as refusal
use Rattle.schema_build_recovered_types.specs.FirstLacks.{IsFirstLack}

-- the error names the first of what is lacking, of which there is something
abbrev pub IsNamedLack : List Lack → RecoveryError → Type 0
IsNamedLack lacks error.UnknownElement = IsFirstLack lacks error.UnknownElement
IsNamedLack lacks error.JoinedEntities = IsFirstLack lacks error.JoinedEntities
IsNamedLack lacks error.Unsupported = IsFirstLack lacks error.Unsupported
IsNamedLack lacks error.Memory = ⊥

-- what is lacking is told before what is captured; memory may be out at any time
abbrev pub NamesLacksFirst : List Lack → ToTextError → Type 0
NamesLacksFirst lacks (refusal.Recovery e) = IsNamedLack lacks e
NamesLacksFirst lacks (refusal.Captured captured) = lacks ≡ []
NamesLacksFirst lacks refusal.Memory = Unit {0}
