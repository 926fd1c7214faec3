-- One error for several.
use Rattle.std.specs.Prelude.{◌≡◌, ◌≢◌, List, [], ◌∷◌}
use Rattle.std.specs.List.{flat_map}
use Rattle.schema_resolve_errors.specs.declared.resolve_error.ActionNotDefinedError.{ActionNotDefinedError}
use Rattle.schema_resolve_errors.specs.declared.resolve_error.TypeNotDefinedError.{TypeNotDefinedError}
use Rattle.schema_build_errors.specs.declared.schema_error.SchemaError.{SchemaError}
use Rattle.schema_build_errors.specs.declared.schema_error.SchemaError.TheVariants.{TypeNotDefined, ActionNotDefined}

-- the error, where it is about undefined types
abbrev pub of_types : SchemaError → List TypeNotDefinedError
of_types (TypeNotDefined e) = e ∷ []
of_types _ = []

-- the error, where it is about undefined actions
abbrev pub of_actions : SchemaError → List ActionNotDefinedError
of_actions (ActionNotDefined e) = e ∷ []
of_actions _ = []

-- one that names the undefined types of all, where there are any
abbrev pub all_types : List SchemaError → TypeNotDefinedError
all_types errors = record { undefined_types = flat_map (λ e. flat_map (λ x. x.undefined_types) (of_types e)) errors }

-- one that names the undefined actions of all, where there are any
abbrev pub all_actions : List SchemaError → ActionNotDefinedError
all_actions errors = record { 0 = flat_map (λ e. flat_map (λ x. x.0) (of_actions e)) errors }

-- one for all: the undefined types of all come first, then the undefined actions of all, then the first error
pub record IsJoined (errors : List SchemaError) (joined : SchemaError) : Type 0 where
  pub types : (all_types errors).undefined_types ≢ [] → joined ≡ TypeNotDefined (all_types errors)
  pub actions : (all_types errors).undefined_types ≡ [] → (all_actions errors).0 ≢ []
      → joined ≡ ActionNotDefined (all_actions errors)
  pub first : (all_types errors).undefined_types ≡ [] → (all_actions errors).0 ≡ []
      → (others : List SchemaError) × (errors ≡ joined ∷ others)
