-- References that may mean either kind of type, as references to what they mean under their own names.
use Rattle.std.specs.Prelude.{ℕ, List, [], ◌∷◌, Option, None, if◌then◌else◌}
use Rattle.std.specs.Option.{unwrap_or}
use Rattle.cedar_data.specs.declared.loc.Loc.{Loc}
use Rattle.cedar_identifiers.specs.Names.{components_of}
use Rattle.cedar_identifiers.specs.declared.reference_type.ReferenceType.{ReferenceType}
use Rattle.cedar_identifiers.specs.declared.reference_type.ReferenceType.TheVariants.{Common, Entity, CommonOrEntity}
use Rattle.cedar_identifiers.specs.declared.internal_name.InternalName.{InternalName}
use Rattle.schema_json.specs.Actions.{action_name}
use Rattle.schema_json.specs.declared.types.Type.{«Type»}
use Rattle.schema_resolve_definitions.specs.Tests.{Tests}
use Rattle.schema_resolve_targets.specs.Qualified.{in_namespace}
use Rattle.schema_resolve_targets.specs.ReferenceParts.{GivenBy}
use Rattle.schema_resolve.specs.References.{reference_to}
use Rattle.schema_resolve.specs.Renamed.{Renaming}
use Rattle.schema_resolve_targets.specs.Targets.{is_defined}
use Rattle.schema_resolve_targets.specs.Undefined.{Undefined, type_reference}

-- a common type where the name is one, and else an entity type
abbrev pub designated_reference : Tests → InternalName → Option Loc → «Type» InternalName
designated_reference t name loc = reference_to (t.is_common (components_of name)) name loc

-- names stay, and what may mean either kind becomes a reference to what it means
abbrev pub designating : Tests → Renaming InternalName InternalName
designating t = record { name = λ kind name. name; either = designated_reference t }

-- the type of an action stays; it is always written
abbrev pub type_as_written : List ℕ → Option InternalName → InternalName
type_as_written id ty = unwrap_or ty action_name

-- the name as a reference that may mean either kind
abbrev pub either_kind : InternalName → Undefined
either_kind name = type_reference (in_namespace None CommonOrEntity (record { name = name }))

-- a name that stands where either kind may, and is neither
abbrev pub undesignated_type : Tests → ReferenceType → InternalName → List Undefined
undesignated_type t Common name = []
undesignated_type t Entity name = []
undesignated_type t CommonOrEntity name =
    if is_defined t CommonOrEntity (components_of name) then [] else either_kind name ∷ []

-- the references that may mean either kind of type and mean none; those to actions are not looked at
abbrev pub undesignated : Tests → GivenBy InternalName Undefined
undesignated t = record { types = undesignated_type t; actions = λ id ty. [] }
