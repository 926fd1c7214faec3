-- Meanings that are closed: each name in them is declared in them, and none is taken for another where it stands.
use Rattle.std.specs.Prelude.{◌≡◌, ◌≢◌, ℕ, true, List, [], ◌∷◌, codes, Contains, None}
use Rattle.std.specs.Cmp.Lexicographic.{slice_cmp}
use Rattle.std.specs.List.{AllByRecursion}
use Rattle.std.specs.List.Sorted.{IsStrictlySortedBy}
use Rattle.cedar_data.specs.Text.{text_cmp}
use Rattle.cedar_names.specs.CanonicalText.{basename}
use Rattle.cedar_names.specs.Meaning.{PlainType, EntityMeaning, ActionMeaning, SchemaMeaning}
use Rattle.cedar_names.specs.declared.extension_table.ExtensionTable.{ExtensionTable}
use Rattle.laws_translate.specs.MeantNames.{HasOpenNames, IsOfWords, action_name_order}
use Rattle.schema_build_text.specs.Captured.{plain_action, IsUncaptured}
use Rattle.schema_build_hierarchy.specs.Ancestors.{IsParentAmong}
use Rattle.laws_build.specs.Closure.Ordered.{IsOrderedType}
use Rattle.laws_build.specs.Closure.Kinds.{HasItsParts, AppliesWhereOwn}
use Rattle.laws_build.specs.Closure.Known.{meant_entities, meant_actions, AreKnownTypes, AreKnownTags}

-- No entity type is called `Action`, and no entity type and no action of a namespace with a name has the last word, or
-- the id, of one of the empty namespace.
pub record HasNamesApart (m : SchemaMeaning) : Type 0 where
  pub no_action : AllByRecursion (λ e. basename e.name ≢ codes "Action") m.entities
  pub entities : (name : List (List ℕ)) → Contains (meant_entities m) name
      → Contains (meant_entities m) (basename name ∷ []) → name ≡ basename name ∷ []
  pub actions : (ty : List (List ℕ)) (id : List ℕ) → Contains (meant_actions m) (ty, id)
      → Contains (meant_actions m) (plain_action, id) → ty ≡ plain_action

-- An entity type has what its kind has, each of its ancestors is declared, and so is each name in its types.
pub record IsClosedEntity (table : ExtensionTable) (m : SchemaMeaning) (e : EntityMeaning) : Type 0 where
  pub parts : HasItsParts e.is_external e.choices e
  pub ancestors_rise : IsStrictlySortedBy (slice_cmp text_cmp) e.ancestors
  pub ancestors : AllByRecursion (λ name. Contains (meant_entities m) name) e.ancestors
  pub ordered : IsOrderedType (PlainType.Rec e.attributes)
  pub attributes : AreKnownTypes table m e.attributes
  pub tags : AreKnownTags table m e.tags

-- An action applies to principals and resources, or to nothing; these rise and are declared, and so are its ancestors
-- and the names in its context.
pub record IsClosedAction (table : ExtensionTable) (m : SchemaMeaning) (a : ActionMeaning) : Type 0 where
  pub applies : AppliesWhereOwn a.is_external a
  pub ancestors_rise : IsStrictlySortedBy action_name_order a.ancestors
  pub ancestors : AllByRecursion (λ name. Contains (meant_actions m) name) a.ancestors
  pub principals_rise : IsStrictlySortedBy (slice_cmp text_cmp) a.principals
  pub principals : AllByRecursion (λ name. Contains (meant_entities m) name) a.principals
  pub resources_rise : IsStrictlySortedBy (slice_cmp text_cmp) a.resources
  pub resources : AllByRecursion (λ name. Contains (meant_entities m) name) a.resources
  pub ordered : IsOrderedType (PlainType.Rec a.context)
  pub context : AreKnownTypes table m a.context

-- the one name is among the ancestors of the entity type, or of the action, of the other name
abbrev pub IsEntityUnder : SchemaMeaning → List (List ℕ) → List (List ℕ) → Type 0
IsEntityUnder m = IsParentAmong (λ e. e.name) (λ e. e.ancestors) m.entities

abbrev pub IsActionUnder : SchemaMeaning → List (List ℕ) × List ℕ → List (List ℕ) × List ℕ → Type 0
IsActionUnder m = IsParentAmong (λ a. (a.ty, a.id)) (λ a. a.ancestors) m.actions

-- what is related by way of another is related
abbrev pub IsTransitive : {A : Type 0} → (A → A → Type 0) → Type 0
IsTransitive {A} E = (a b c : A) → E a b → E b c → E a c

-- Ancestors of ancestors are ancestors, no action is one of its own, and none of an external entity type is an enum.
pub record HasClosedAncestors (m : SchemaMeaning) : Type 0 where
  pub entities : IsTransitive (IsEntityUnder m)
  pub actions : IsTransitive (IsActionUnder m)
  pub no_cycle : (a : List (List ℕ) × List ℕ) → IsActionUnder m a a → ⊥
  pub no_enum : (e above : EntityMeaning) → Contains m.entities e → Contains m.entities above
      → e.is_external ≡ true → Contains e.ancestors above.name → above.choices ≡ None

-- The names rise, are made of words and are apart from each other; each that stands in an entity type or an action is
-- declared; ancestors are closed; and nothing is captured.
pub record IsClosed (table : ExtensionTable) (m : SchemaMeaning) : Type 0 where
  pub open_names : HasOpenNames m
  pub words : IsOfWords m
  pub apart : HasNamesApart m
  pub entities : AllByRecursion (IsClosedEntity table m) m.entities
  pub actions : AllByRecursion (IsClosedAction table m) m.actions
  pub ancestors : HasClosedAncestors m
  pub uncaptured : IsUncaptured m
