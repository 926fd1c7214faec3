-- What keeps a built type from being a type of a fragment.
use Rattle.std.specs.Prelude.{◌≡◌, ℕ, List, ◌∷◌}
use Rattle.schema_build_types.specs.Lacks.{Lack}
use Rattle.schema_build_types.specs.Lacks as lack
use Rattle.schema_build_errors.specs.declared.recovery_error.RecoveryError.{RecoveryError}
use Rattle.schema_build_errors.specs.declared.recovery_error.RecoveryError.TheVariants as error

-- there are several names
abbrev pub IsSeveral : List (List (List ℕ)) → Type 0
IsSeveral ns = (a b : List (List ℕ)) × (more : List (List (List ℕ))) × (ns ≡ a ∷ b ∷ more)

-- the error names the first of what is lacking; memory may be out at any time
abbrev pub IsFirstLack : List Lack → RecoveryError → Type 0
IsFirstLack lacks error.UnknownElement = (more : List Lack) × (lacks ≡ lack.UnknownElement ∷ more)
IsFirstLack lacks error.JoinedEntities = (more : List Lack) × (lacks ≡ lack.JoinedEntities ∷ more)
IsFirstLack lacks error.Unsupported = (more : List Lack) × (lacks ≡ lack.Unsupported ∷ more)
IsFirstLack lacks error.Memory = Unit {0}
