-- The declared entity type or action of a number.
use Rattle.std.specs.Prelude.{◌≡◌, ◌<◌, ℕ, [], ◌∷◌, codes, None}
use Rattle.schema_generate.specs.Generated.{action_word}
use Rattle.cedar_identifiers.specs.declared.raw_name.RawName.{RawName}
use Rattle.schema_json.specs.declared.action_type.ActionType.{ActionType}
use Rattle.schema_json.specs.AsWritten.{as_written}
use Rattle.laws_translate.specs.DeclarationsSay.{EntitySays, ActionSays}
use Rattle.schema_build_checks.specs.DeclaredAt.{ActionAt}
use Rattle.schema_build_hierarchy.specs.Declarations.{Declared, DeclaredEntity, entity_name, action_key}
use Rattle.laws_build.specs.Generated.Declares.{entity_path, entity_of_number, action_of_number}

abbrev pub DeclaredAction : Type 0
DeclaredAction = Declared ActionAt (ActionType RawName as_written)

-- it stands in the empty namespace and says what the text declares of the number
pub record IsEntityOf (n : ℕ) (d : DeclaredEntity) : Type 0 where
  pub number : ℕ
  pub below : number < n
  pub outside : d.ns ≡ None
  pub name : entity_name d ≡ entity_path number
  pub says : EntitySays d.ty (entity_of_number n number)

pub record IsActionOf (n : ℕ) (d : DeclaredAction) : Type 0 where
  pub number : ℕ
  pub below : number < n
  pub outside : d.ns ≡ None
  pub key : action_key d ≡ (codes "Action" ∷ [], action_word number)
  pub says : ActionSays d.ty (action_of_number n number)
