-- How the code tries the candidates of a reference, without making them: first the name behind its namespace, then the
-- name as it is written.
use Rattle.std.specs.Prelude.{ℕ, Bool, true, false, not, ◌&&◌, List, [], ◌∷◌, ◌++◌, Option, Some, None, if◌then◌else◌}
use Rattle.cedar_identifiers.specs.Candidates.{is_unqualified, qualified}
use Rattle.cedar_identifiers.specs.Names.{components_of, has_cedar}
use Rattle.cedar_identifiers.specs.declared.reference_type.ReferenceType.{ReferenceType}
use Rattle.cedar_identifiers.specs.declared.reference_type.ReferenceType.TheVariants.{Common, Entity, CommonOrEntity}
use Rattle.cedar_identifiers.specs.declared.internal_name.InternalName.{InternalName}
use Rattle.schema_resolve_definitions.specs.Tests.{Tests}

-- the components of an unqualified name behind a namespace
abbrev pub components_behind : InternalName → InternalName → List (List ℕ)
components_behind ns name = components_of ns ++ name.first.text ∷ []

-- whether it is a common type, where it is one or an entity type: of what is both, it is
abbrev pub kind_told : Bool → Bool → Option Bool
kind_told is_common is_entity = if is_common then Some true else (if is_entity then Some false else None)

-- what a name is that is defined in the kind that is asked for
abbrev pub kind_found : Tests → ReferenceType → List (List ℕ) → Option Bool
kind_found t Common name = kind_told (t.is_common name) false
kind_found t Entity name = kind_told false (t.is_entity name)
kind_found t CommonOrEntity name = kind_told (t.is_common name) (t.is_entity name)

-- what an unqualified name is behind its namespace
abbrev pub own_kind : Tests → Option InternalName → ReferenceType → InternalName → Option Bool
own_kind t None kind name = None
own_kind t (Some ns) kind name = if is_unqualified name then kind_found t kind (components_behind ns name) else None

-- an action is defined with this id and with a type of these components
abbrev pub is_action_there : Tests → List ℕ → List (List ℕ) → Bool
is_action_there t id ty = not (has_cedar ty) && t.is_action (ty, id)

-- an action is defined with this id and with the unqualified name behind its namespace as its type
abbrev pub is_own_action : Tests → List ℕ → Option InternalName → InternalName → Bool
is_own_action t id None ty = false
is_own_action t id (Some ns) ty = is_unqualified ty && is_action_there t id (components_behind ns ty)

-- the candidate: the name behind its namespace, or as it is written
abbrev pub candidate : Option InternalName → InternalName → Bool → InternalName
candidate ns name true = qualified ns name
candidate ns name false = name
