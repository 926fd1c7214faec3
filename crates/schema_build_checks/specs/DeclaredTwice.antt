-- Which declarations a schema may not have beside others.
use Rattle.std.specs.Prelude.{◌≡◌, ℕ, List, [], ◌++◌, None}
use Rattle.cedar_identifiers.specs.declared.id.Id.{Id}
use Rattle.cedar_identifiers.specs.declared.name_text.NameText as named
use Rattle.cedar_identifiers.specs.declared.raw_name.RawName.{RawName}
use Rattle.cedar_identifiers.specs.declared.internal_name.InternalName.{InternalName}
use Rattle.cedar_names.specs.Orders.{ids_of, names_in_order}
use Rattle.cedar_names.specs.declared.entity_uid.EntityUID.{EntityUID}
use Rattle.schema_json.specs.Actions.{action_name}
use Rattle.schema_json.specs.declared.fragment.Fragment.{Fragment}
use Rattle.schema_resolve_definitions.specs.Declarations.{declared}
use Rattle.schema_resolve_definitions.specs.Tests.{tests_of}
use Rattle.schema_build_errors.specs.declared.schema_error.SchemaError.{SchemaError}
use Rattle.schema_build_errors.specs.declared.schema_error.SchemaError.TheVariants.{ActionEntityTypeDeclared}
use Rattle.schema_build_errors.specs.declared.schema_error.SchemaError.TheVariants.{TypeShadowing, ActionShadowing}
use Rattle.schema_build_checks.specs.DeclaredAt.{at_of, actions_at_in_order, called_actions, hiding_types}
use Rattle.schema_build_checks.specs.DeclaredAt.{hiding_actions}
use Rattle.schema_build_checks.specs.Least.{IsFirstLeast}

-- the last word of a name, without a place
pub record IsBasenameOf (name word : InternalName) : Type 0 where
  pub namespace : List Id
  pub last : ids_of name ≡ namespace ++ ids_of word
  pub alone : word.others ≡ []
  pub placeless : word.loc ≡ None

-- the action of the empty namespace with this id, without a place
abbrev pub IsPlainAction : List ℕ → EntityUID → Type 0
IsPlainAction id uid = at_of uid ≡ record { ty = action_name; id = id; loc = None }

module _ {G : named.Ghosts RawName} where
  -- an entity type is declared with the name `Action`: the error has the place of the least
  abbrev pub ActionTypeDeclared : Fragment RawName G → SchemaError → Type 0
  ActionTypeDeclared f (ActionEntityTypeDeclared e) =
      (name : InternalName) × IsFirstLeast names_in_order (called_actions f) name × (e.loc ≡ name.loc)
  ActionTypeDeclared f _ = ⊥

  -- a type of a named namespace hides one of the empty namespace: the error names the least
  abbrev pub TypeHides : Fragment RawName G → SchemaError → Type 0
  TypeHides f (TypeShadowing e) =
      IsFirstLeast names_in_order (hiding_types (tests_of (declared f)) f) e.shadowing_def
      × IsBasenameOf e.shadowing_def e.shadowed_def
  TypeHides f _ = ⊥

  -- an action of a named namespace hides one of the empty namespace: the error names the least
  abbrev pub ActionHides : Fragment RawName G → SchemaError → Type 0
  ActionHides f (ActionShadowing e) =
      IsFirstLeast actions_at_in_order (hiding_actions (tests_of (declared f)) f) (at_of e.shadowing_def)
      × IsPlainAction e.shadowing_def.eid.0 e.shadowed_def
  ActionHides f _ = ⊥
