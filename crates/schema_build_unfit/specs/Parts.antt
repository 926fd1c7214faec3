-- Entity types and actions that make no schema.
use Rattle.std.specs.Prelude.{◌≡◌, ◌≢◌, ℕ, List, [], All, Some, codes}
use Rattle.std.specs.List.{AllWithin, Contains, slice_get}
use Rattle.std.specs.declared.cmp.Ordering.TheVariants.{Less}
use Rattle.cedar_identifiers.specs.Names.{components_of}
use Rattle.cedar_identifiers.specs.declared.eid.Eid.{Eid}
use Rattle.cedar_identifiers.specs.declared.name.Name.{Name}
use Rattle.cedar_names.specs.CanonicalText.{basename}
use Rattle.cedar_names.specs.Orders.{names_in_order}
use Rattle.cedar_names.specs.declared.entity_uid.EntityUID.{EntityUID}
use Rattle.schema_build_types.specs.declared.action.ValidatorActionId.{ValidatorActionId}
use Rattle.schema_build_types.specs.declared.entity_type.ValidatorEntityType.{ValidatorEntityType}
use Rattle.schema_build_types.specs.declared.entity_type.ValidatorEntityTypeKind.TheVariants.{Enum}

-- the type of the action has another basename than `Action`
abbrev pub IsMisnamed : EntityUID × ValidatorActionId → Type 0
IsMisnamed a = basename (components_of a.0.ty.name) ≢ codes "Action"

-- the entity type is enumerated, and lists an ancestor
pub record IsEnumBelow (ty : ValidatorEntityType) : Type 0 where
  pub choices : List Eid
  pub enumerated : ty.kind ≡ Enum choices
  pub below : ty.ancestors ≢ []

-- none of the items is so
abbrev pub NoneIs : {A : Type 0} → (A → Type 0) → List A → Type 0
NoneIs P items = All (λ x. P x → ⊥) items

-- this item is the first that is so
pub record IsFirstThat {A : Type 0} (P : A → Type 0) (items : List A) (x : A) : Type 0 where
  pub place : ℕ
  pub here : slice_get items place ≡ Some x
  pub none_before : AllWithin (λ y. P y → ⊥) items 0 place
  pub is : P x

-- the name is one of these, and none of them comes before it
pub record IsLeastName (names : List Name) (name : Name) : Type 0 where
  pub among : Contains names name
  pub least : All (λ n. names_in_order n.name name.name ≢ Less) names
