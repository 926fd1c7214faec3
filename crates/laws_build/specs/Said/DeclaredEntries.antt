-- Declared entity types and actions as entries of a meaning.
use Rattle.std.specs.Prelude.{◌≡◌, [], None}
use Rattle.std.specs.List.{Contains}
use Rattle.cedar_identifiers.specs.declared.raw_name.RawName.{RawName}
use Rattle.cedar_names.specs.CanonicalText.{namespace}
use Rattle.cedar_names.specs.Meaning.{EntityMeaning, ActionMeaning, SchemaMeaning}
use Rattle.schema_json.specs.declared.action_type.ActionType.{ActionType}
use Rattle.schema_json.specs.declared.fragment.Fragment.{Fragment}
use Rattle.schema_json.specs.AsWritten.{as_written}
use Rattle.laws_written.specs.Meant.{entity_as, action_as, name_or_none}
use Rattle.laws_translate.specs.DeclarationsSay.{KindSays, AppliesSay}
use Rattle.laws_translate.specs.FragmentsSay.{name_components}
use Rattle.schema_build_checks.specs.DeclaredAt.{ActionAt}
use Rattle.schema_build_hierarchy.specs.Declarations.{Declared, DeclaredEntity, entity_name, action_key}
use Rattle.schema_build_hierarchy.specs.Declarations.{declared_entities, declared_actions}
use Rattle.schema_build.specs.Meaning.{key_of}

-- The declared entity type has the full name of the entry and stands in the namespace of that name, and it says what is
-- written of the entry.
pub record IsEntity (e : EntityMeaning) (d : DeclaredEntity) : Type 0 where
  pub name : entity_name d ≡ e.name
  pub space : name_components d.ns ≡ name_or_none (namespace e.name)
  pub kind : KindSays d.ty.external d.ty.kind (entity_as e.is_external e.choices e)

-- the declared entity type is one of the meaning's
pub record IsEntryOf (m : SchemaMeaning) (d : DeclaredEntity) : Type 0 where
  pub entry : EntityMeaning
  pub among : Contains m.entities entry
  pub is : IsEntity entry d

-- a declared action
abbrev pub DeclaredAction : Type 0
DeclaredAction = Declared ActionAt (ActionType RawName as_written)

-- The declared action has the type and the id of the entry and stands in the namespace of its type, and it says what is
-- written of the entry.
pub record IsAction (a : ActionMeaning) (d : DeclaredAction) : Type 0 where
  pub key : action_key d ≡ key_of a
  pub space : name_components d.ns ≡ name_or_none (namespace a.ty)
  pub bare : d.ty.attributes ≡ None
  pub applies : AppliesSay d.ty.external d.ty.applies_to d.ty.member_of (action_as a.is_external a)

-- the declared action is one of the meaning's
pub record IsActionEntryOf (m : SchemaMeaning) (d : DeclaredAction) : Type 0 where
  pub entry : ActionMeaning
  pub among : Contains m.actions entry
  pub is : IsAction entry d

-- The fragment declares just the entity types and the actions of the meaning, each once, and no common type.
pub record DeclaresJust (m : SchemaMeaning) (f : Fragment RawName as_written) : Type 0 where
  pub entities : (d : DeclaredEntity) → Contains (declared_entities f) d → IsEntryOf m d
  pub each_entity : (e : EntityMeaning) → Contains m.entities e
      → (d : DeclaredEntity) × Contains (declared_entities f) d × IsEntity e d
  pub entities_once : (c d : DeclaredEntity) → Contains (declared_entities f) c → Contains (declared_entities f) d
      → entity_name c ≡ entity_name d → c ≡ d
  pub actions : (d : DeclaredAction) → Contains (declared_actions f) d → IsActionEntryOf m d
  pub each_action : (a : ActionMeaning) → Contains m.actions a
      → (d : DeclaredAction) × Contains (declared_actions f) d × IsAction a d
  pub actions_once : (c d : DeclaredAction) → Contains (declared_actions f) c → Contains (declared_actions f) d
      → action_key c ≡ action_key d → c ≡ d
  pub no_commons : (e : _) → Contains f.0 e → e.1.common_types ≡ []
