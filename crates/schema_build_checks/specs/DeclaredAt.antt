-- What a fragment declares, each name with its namespace in front and at the place of its declaration.
use Rattle.std.specs.Prelude.{ℕ, List, [], ◌∷◌, ◌++◌, Option, Some, None, codes, if◌then◌else◌}
use Rattle.std.specs.List.{flat_map}
use Rattle.std.specs.Str.{bytes_eq}
use Rattle.cedar_data.specs.declared.loc.Loc.{Loc}
use Rattle.std.specs.declared.cmp.Ordering.{Ordering}
use Rattle.cedar_identifiers.specs.Names.{components_of}
use Rattle.cedar_identifiers.specs.Candidates.{qualified}
use Rattle.cedar_identifiers.specs.declared.id.Id.{Id}
use Rattle.cedar_identifiers.specs.declared.name.Name.{Name}
use Rattle.cedar_identifiers.specs.declared.internal_name.InternalName.{InternalName}
use Rattle.cedar_identifiers.specs.declared.name_text.NameText as named
use Rattle.cedar_identifiers.specs.declared.raw_name.RawName.{RawName}
use Rattle.cedar_identifiers.specs.declared.unreserved_id.UnreservedId.{UnreservedId}
use Rattle.cedar_names.specs.declared.entity_uid.EntityUID.{EntityUID}
use Rattle.cedar_names.specs.Orders.{ids_of, keys_in_order}
use Rattle.schema_json.specs.declared.common_type.CommonType.{CommonType}
use Rattle.schema_json.specs.declared.common_type.CommonTypeId.{CommonTypeId}
use Rattle.schema_json.specs.declared.entity_type.EntityType.{EntityType}
use Rattle.schema_json.specs.Actions.{action_name}
use Rattle.schema_json.specs.declared.action_type.ActionType.{ActionType}
use Rattle.schema_json.specs.declared.fragment.NamespaceDefinition.{NamespaceDefinition}
use Rattle.schema_json.specs.declared.fragment.Fragment.{Fragment}
use Rattle.schema_resolve_definitions.specs.Declarations.{name_of, action_type}
use Rattle.schema_resolve_definitions.specs.Defined.{is_hidden}
use Rattle.schema_resolve_definitions.specs.Tests.{Tests}

-- a word as a name, at a place
abbrev pub lone_name_at : Id → Option Loc → InternalName
lone_name_at id loc = record { first = id; others = []; loc = loc }

-- a name that is declared in a namespace, at the place of its declaration
abbrev pub declared_at : Option Name → Id → Option Loc → InternalName
declared_at ns id loc = qualified (name_of ns) (lone_name_at id loc)

-- a name that is called `Action`
abbrev pub called_action : Option Name → UnreservedId × EntityType RawName → List InternalName
called_action ns e = if bytes_eq e.0.id.text (codes "Action") then declared_at ns e.0.id e.1.loc ∷ [] else []

-- the common type, where the empty namespace declares a type of this name
abbrev pub hiding_common : Tests → Option Name → CommonTypeId × CommonType RawName → List InternalName
hiding_common t ns e = if is_hidden t e.0.id.id.text then declared_at ns e.0.id.id e.1.loc ∷ [] else []

-- the entity type, where the empty namespace declares a type of this name
abbrev pub hiding_entity : Tests → Option Name → UnreservedId × EntityType RawName → List InternalName
hiding_entity t ns e = if is_hidden t e.0.id.text then declared_at ns e.0.id e.1.loc ∷ [] else []

-- an action that is declared: its type, its id and the place of its declaration
pub record ActionAt : Type 0 where
  pub ty : InternalName
  pub id : List ℕ
  pub loc : Option Loc

-- the action that an entity is
abbrev pub at_of : EntityUID → ActionAt
at_of uid = record { ty = uid.ty.name; id = uid.eid.0; loc = uid.loc }

-- by type, then by the bytes of the id
abbrev pub actions_at_in_order : ActionAt → ActionAt → Ordering
actions_at_in_order a b = keys_in_order (ids_of a.ty, a.id) (ids_of b.ty, b.id)

module _ {G : named.Ghosts RawName} where
  -- the entity types that are declared with the name `Action`
  abbrev pub called_actions : Fragment RawName G → List InternalName
  called_actions f = flat_map (λ e. flat_map (called_action e.0) e.1.entity_types) f.0

  -- the types of a named namespace that have the name of a type of the empty one: common types before entity types
  abbrev pub hiding_types_in : Tests → Option Name × NamespaceDefinition RawName G → List InternalName
  hiding_types_in t (None, n) = []
  hiding_types_in t (Some ns, n) =
      flat_map (hiding_common t (Some ns)) n.common_types ++ flat_map (hiding_entity t (Some ns)) n.entity_types

  abbrev pub hiding_types : Tests → Fragment RawName G → List InternalName
  hiding_types t f = flat_map (hiding_types_in t) f.0

  -- the action, where the empty namespace declares one with this id
  abbrev pub hiding_action : Tests → Option Name → List ℕ × ActionType RawName G → List ActionAt
  hiding_action t ns e =
      if t.is_action (components_of action_name, e.0) then record
      { ty = action_type ns; id = e.0; loc = e.1.loc } ∷ [] else []

  -- the actions of a named namespace that have the id of an action of the empty one
  abbrev pub hiding_actions_in : Tests → Option Name × NamespaceDefinition RawName G → List ActionAt
  hiding_actions_in t (None, n) = []
  hiding_actions_in t (Some ns, n) = flat_map (hiding_action t (Some ns)) n.actions

  abbrev pub hiding_actions : Tests → Fragment RawName G → List ActionAt
  hiding_actions t f = flat_map (hiding_actions_in t) f.0
