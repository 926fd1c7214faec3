-- The declared common types of a fragment as they are lent.
use Rattle.std.specs.Prelude.{◌≡◌, ℕ, List, map, Some, slice_get}
use Rattle.cedar_data.specs.Entries.{on_value}
use Rattle.cedar_identifiers.specs.declared.internal_name.InternalName.{InternalName}
use Rattle.schema_resolve_definitions.specs.Declarations.{name_of}
use Rattle.schema_build_errors.specs.declared.schema_error.SchemaError.{SchemaError}
use Rattle.schema_build_errors.specs.declared.schema_error.SchemaError.TheVariants.{CycleInCommonTypeReferences}
use Rattle.schema_build_scope.specs.Commons.{TypeAt}
use Rattle.schema_build_scope.specs.declared.lent_commons.LentType.{LentType}

-- the type that is lent
abbrev pub lent_type : LentType → TypeAt
lent_type c = record { place = name_of c.ns.now; ty = c.ty.now }

-- the declarations that are lent, under their names
abbrev pub lent_commons : List (InternalName × LentType) → List (InternalName × TypeAt)
lent_commons entries = map (on_value lent_type) entries

-- the error names the common type of this rank among these
abbrev pub NamesCycleAt : List (InternalName × LentType) → ℕ → SchemaError → Type 0
NamesCycleAt entries rank (CycleInCommonTypeReferences e) = (c : LentType) × (slice_get entries rank ≡ Some (e.ty, c))
NamesCycleAt entries rank _ = ⊥
