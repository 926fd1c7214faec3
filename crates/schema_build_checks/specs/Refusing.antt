-- Errors about the first of what a visitor is given.
use Rattle.std.specs.Prelude.{◌≡◌, List, [], ◌∷◌}
use Rattle.schema_build_errors.specs.declared.schema_error.SchemaError.{SchemaError}

-- the error is about the first of these
abbrev pub IsAboutFirst : {U : Type 0} → (U → SchemaError → Type 0) → List U → SchemaError → Type 0
IsAboutFirst about [] e = ⊥
IsAboutFirst about (first ∷ others) e = about first e

-- a visitor stays as it is, and the part gives it nothing
abbrev pub GivenNothing : {S P U : Type 0} → (S → P → List U) → S → P → S → Type 0
GivenNothing gives before part after = (after ≡ before) × (gives before part ≡ [])
