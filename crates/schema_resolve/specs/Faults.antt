-- Which error names a reference that means nothing.
use Rattle.std.specs.Prelude.{◌≡◌, List, [], ◌∷◌, ⊤}
use Rattle.schema_resolve_targets.specs.Undefined.{Undefined, type_reference, action_reference}
use Rattle.schema_resolve_errors.specs.declared.resolve_error.ResolveError.{ResolveError}
use Rattle.schema_resolve_errors.specs.declared.resolve_error.ResolveError.TheVariants.{TypeNotDefined}
use Rattle.schema_resolve_errors.specs.declared.resolve_error.ResolveError.TheVariants.{ActionNotDefined, Memory}

-- the error names this reference and no other; memory may be out at any time
abbrev pub Names : Undefined → ResolveError → Type 0
Names u Memory = ⊤
Names (type_reference c) (TypeNotDefined e) = e.undefined_types ≡ c ∷ []
Names (type_reference c) (ActionNotDefined e) = ⊥
Names (action_reference id ty) (TypeNotDefined e) = ⊥
Names (action_reference id ty) (ActionNotDefined e) = (only : _) × (e.0 ≡ only ∷ []) × (only.id ≡ id) × (only.ty ≡ ty)

-- the error names the first of these references; memory may be out at any time
abbrev pub NamesFirst : List Undefined → ResolveError → Type 0
NamesFirst us Memory = ⊤
NamesFirst [] (TypeNotDefined e) = ⊥
NamesFirst [] (ActionNotDefined e) = ⊥
NamesFirst (u ∷ us) (TypeNotDefined e) = Names u (TypeNotDefined e)
NamesFirst (u ∷ us) (ActionNotDefined e) = Names u (ActionNotDefined e)
