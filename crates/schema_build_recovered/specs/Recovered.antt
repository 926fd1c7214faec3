-- The fragment that is recovered of a meaning: its names are full ones, as they are written.
use Rattle.std.specs.Prelude.{◌≡◌, ℕ, Bool, true, false, List, [], ◌∷◌, map, filter, Option, None, Some}
use Rattle.std.specs.List.{AllZip}
use Rattle.std.specs.declared.cmp.Ordering.{Ordering}
use Rattle.cedar_data.specs.Maps.{map_of}
use Rattle.cedar_data.specs.Text.{text_cmp}
use Rattle.cedar_identifiers.specs.declared.name.Name.{Name}
use Rattle.cedar_identifiers.specs.declared.name_text.NameText as named
use Rattle.cedar_identifiers.specs.declared.raw_name.RawName.{RawName}
use Rattle.cedar_identifiers.specs.declared.unreserved_id.UnreservedId.{UnreservedId}
use Rattle.cedar_names.specs.CanonicalText.{namespace, namespaces, basename}
use Rattle.cedar_names.specs.Definitions.{same_name}
use Rattle.cedar_names.specs.Meaning.{PlainType, EntityMeaning, ActionMeaning, SchemaMeaning}
use Rattle.cedar_names.specs.Meaning as plain
use Rattle.schema_json.specs.declared.types.Type.{«Type»}
use Rattle.schema_json.specs.declared.entity_type.EntityType.{EntityType}
use Rattle.schema_json.specs.declared.entity_type.EntityTypeKind.{EntityTypeKind}
use Rattle.schema_json.specs.declared.entity_type.EntityTypeKind.TheVariants.{Standard, Enum}
use Rattle.schema_json.specs.declared.entity_type.StandardEntityType.{StandardEntityType}
use Rattle.schema_json.specs.declared.action_type.ActionEntityUID.{ActionEntityUID}
use Rattle.schema_json.specs.declared.action_type.ActionType.{ActionType}
use Rattle.schema_json.specs.declared.action_type.ApplySpec.{ApplySpec}
use Rattle.schema_json.specs.declared.fragment.Fragment.{Fragment}
use Rattle.schema_json.specs.declared.fragment.NamespaceDefinition.{NamespaceDefinition}
use Rattle.schema_build_recovered_types.specs.RecoveredTypes.{IsName, IsWritten, IsRecoveredType}

-- tags, where there are any
abbrev pub AreRecoveredTags : Option PlainType → Option («Type» RawName) → Type 0
AreRecoveredTags None None = Unit {0}
AreRecoveredTags (Some p) (Some t) = IsRecoveredType p t
AreRecoveredTags _ _ = ⊥

-- a standard entity type: its ancestors are parents
pub record IsRecoveredStandard (e : EntityMeaning) (s : StandardEntityType RawName) : Type 0 where
  pub parents : AllZip IsWritten e.ancestors s.member_of_types
  pub shape : IsRecoveredType (plain.Rec e.attributes) s.shape.0
  pub tags : AreRecoveredTags e.tags s.tags

-- what is declared of an entity type, which may have choices
abbrev pub IsRecoveredKind : EntityMeaning → Option (List (List ℕ)) → EntityTypeKind RawName → Type 0
IsRecoveredKind e None (Standard s) = IsRecoveredStandard e s
IsRecoveredKind e (Some choices) (Enum ids) = map (λ c. c.0) ids ≡ choices
IsRecoveredKind _ _ _ = ⊥

-- an entity type, under its basename
pub record IsRecoveredEntity (e : EntityMeaning) (x : UnreservedId × EntityType RawName) : Type 0 where
  pub name : x.0.id.text ≡ basename e.name
  pub kind : IsRecoveredKind e e.choices x.1.kind
  pub external : x.1.external ≡ e.is_external
  pub annotations : x.1.annotations.0 ≡ []
  pub loc : x.1.loc ≡ None

-- what an action applies to, where another schema does not declare it
pub record IsRecoveredSpec (a : ActionMeaning) (spec : ApplySpec RawName) : Type 0 where
  pub principals : AllZip IsWritten a.principals spec.principal_types
  pub resources : AllZip IsWritten a.resources spec.resource_types
  pub context : IsRecoveredType (plain.Rec a.context) spec.context.0

abbrev pub IsRecoveredApplies : ActionMeaning → Bool → Option (ApplySpec RawName) → Type 0
IsRecoveredApplies a true None = Unit {0}
IsRecoveredApplies a false (Some spec) = IsRecoveredSpec a spec
IsRecoveredApplies _ _ _ = ⊥

-- the key of a namespace: the empty one has no name
abbrev pub IsKey : List (List ℕ) → Option Name → Type 0
IsKey [] None = Unit {0}
IsKey (c ∷ cs) (Some name) = IsName (c ∷ cs) name.name
IsKey _ _ = ⊥

-- the one entry of each key is the last of these
abbrev pub IsMapOf : {K V A : Type 0} → (K → K → Ordering) → (A → K × V → Type 0) → List A → List (K × V) → Type 0
IsMapOf {K} {V} {A} cmp R items entries =
    (rows : List (K × V)) × AllZip R items rows × (entries ≡ map_of cmp rows)

module _ {G : named.Ghosts RawName} where
  -- a parent of an action, with its type
  pub record IsRecoveredParent (a : List (List ℕ) × List ℕ) (p : ActionEntityUID RawName G) : Type 0 where
    pub written : RawName
    pub type_is : p.ty ≡ Some written
    pub type_name : IsWritten a.0 written
    pub id : p.id ≡ a.1

  -- the ancestors of an action are its parents; where there are none, they are absent
  abbrev pub AreRecoveredParents : List (List (List ℕ) × List ℕ) → Option (List (ActionEntityUID RawName G)) → Type 0
  AreRecoveredParents [] None = Unit {0}
  AreRecoveredParents (a ∷ more) (Some parents) = AllZip IsRecoveredParent (a ∷ more) parents
  AreRecoveredParents _ _ = ⊥

  -- an action, under its id
  pub record IsRecoveredAction (a : ActionMeaning) (x : List ℕ × ActionType RawName G) : Type 0 where
    pub id : x.0 ≡ a.id
    pub attributes : x.1.attributes ≡ None
    pub applies : IsRecoveredApplies a a.is_external x.1.applies_to
    pub parents : AreRecoveredParents a.ancestors x.1.member_of
    pub external : x.1.external ≡ a.is_external
    pub annotations : x.1.annotations.0 ≡ []
    pub loc : x.1.loc ≡ None

  -- a namespace: its entity types and its actions, without common types
  pub record IsRecoveredNamespace (m : SchemaMeaning) (n : List (List ℕ))
      (x : Option Name × NamespaceDefinition RawName G) : Type 0 where
    pub name : IsKey n x.0
    pub common_types : x.1.common_types ≡ []
    pub entity_types : IsMapOf (λ a b. text_cmp a.id.text b.id.text) IsRecoveredEntity
        (filter (λ e. same_name n (namespace e.name)) m.entities) x.1.entity_types
    pub actions : IsMapOf text_cmp IsRecoveredAction
        (filter (λ a. same_name n (namespace a.ty)) m.actions) x.1.actions
    pub annotations : x.1.annotations.0 ≡ []

  -- what is recovered of a meaning: a namespace for each that has an item, without common types, annotations and places
  abbrev pub IsRecoveredFragment : SchemaMeaning → Fragment RawName G → Type 0
  IsRecoveredFragment m f = AllZip (IsRecoveredNamespace m) (namespaces m) f.0
