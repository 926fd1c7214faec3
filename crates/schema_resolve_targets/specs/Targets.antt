-- What references mean, where it is known what is defined.
use Rattle.std.specs.Prelude.{ℕ, Bool, not, ◌&&◌, ◌||◌, List, [], ◌∷◌, Option, Some, None, find}
use Rattle.std.specs.Option.{unwrap_or}
use Rattle.cedar_identifiers.specs.Names.{components_of, has_cedar}
use Rattle.cedar_identifiers.specs.declared.reference_type.ReferenceType.{ReferenceType}
use Rattle.cedar_identifiers.specs.declared.reference_type.ReferenceType.TheVariants.{Common, Entity, CommonOrEntity}
use Rattle.cedar_identifiers.specs.declared.internal_name.InternalName.{InternalName}
use Rattle.cedar_identifiers.specs.declared.conditional_name.ConditionalName.{ConditionalName}
use Rattle.schema_resolve_definitions.specs.Tests.{Tests}
use Rattle.schema_json.specs.Actions.{action_name}
use Rattle.schema_resolve_targets.specs.ReferenceParts.{GivenBy}
use Rattle.schema_resolve_targets.specs.Undefined.{Undefined, type_reference, action_reference}

-- the name is defined in the kind that is asked for
abbrev pub is_defined : Tests → ReferenceType → List (List ℕ) → Bool
is_defined t Common name = t.is_common name
is_defined t Entity name = t.is_entity name
is_defined t CommonOrEntity name = t.is_common name || t.is_entity name

-- the first candidate that is defined in the kind that the reference asks for
abbrev pub target : Tests → ConditionalName → Option InternalName
target t c = find (λ p. is_defined t c.reference_type (components_of p)) c.possibilities

-- an action with this type and id is defined; no action's type has the component `__cedar`
abbrev pub is_action : Tests → List ℕ → InternalName → Bool
is_action t id ty = not (has_cedar (components_of ty)) && t.is_action (components_of ty, id)

-- the first candidate of the type with which the action is defined
abbrev pub action_target : Tests → List ℕ → Option ConditionalName → Option InternalName
action_target t id None = None
action_target t id (Some c) = find (is_action t id) c.possibilities

-- the name of the target; where there is none, some name
abbrev pub target_name : Tests → ConditionalName → InternalName
target_name t c = unwrap_or (target t c) c.raw.name

-- the type of the action that is found
abbrev pub action_target_name : Tests → List ℕ → Option ConditionalName → InternalName
action_target_name t id ty = unwrap_or (action_target t id ty) action_name

-- nothing where there is a target
abbrev pub unless : {A U : Type 0} → Option A → U → List U
unless None u = u ∷ []
unless (Some a) u = []

-- the reference, where it has no target
abbrev pub untargeted_type : Tests → ConditionalName → List Undefined
untargeted_type t c = unless (target t c) (type_reference c)

-- the reference to an action, where it has no target
abbrev pub untargeted_action : Tests → List ℕ → Option ConditionalName → List Undefined
untargeted_action t id ty = unless (action_target t id ty) (action_reference id ty)

-- a reference, where it has no target
abbrev pub untargeted : Tests → GivenBy ConditionalName Undefined
untargeted t = record { types = λ role c. untargeted_type t c; actions = untargeted_action t }
