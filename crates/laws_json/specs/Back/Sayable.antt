-- The fragments whose JSON value says them again, part by part.
use Rattle.std.specs.Prelude.{◌≡◌, ◌≢◌, ℕ, true, false, List, [], ◌∷◌, map, Option, None, IfSome}
use Rattle.std.specs.List.{AllByRecursion}
use Rattle.std.specs.List.Sorted.{IsStrictlySortedBy}
use Rattle.std.specs.Map.{keys_of}
use Rattle.std.specs.Str.{all_scalars}
use Rattle.cedar_data.specs.Text.{text_cmp}
use Rattle.cedar_data.specs.declared.loc.Loc.{Loc}
use Rattle.cedar_identifiers.specs.Names.{components_of, name_text}
use Rattle.cedar_identifiers.specs.declared.annotations.Annotations.{Annotations}
use Rattle.cedar_identifiers.specs.declared.eid.Eid.{Eid}
use Rattle.cedar_identifiers.specs.declared.name.Name.{Name}
use Rattle.cedar_identifiers.specs.declared.name_text.NameText as named
use Rattle.cedar_identifiers.specs.declared.raw_name.RawName.{RawName}
use Rattle.cedar_identifiers.specs.declared.unreserved_id.UnreservedId.{UnreservedId}
use Rattle.schema_json.specs.Keywords.{is_keyword_name}
use Rattle.schema_json.specs.declared.types.Type.{«Type»}
use Rattle.schema_json.specs.declared.types.Type.TheVariants.{Variant, CommonTypeRef}
use Rattle.schema_json.specs.declared.types.TypeVariant.TheVariants as variant
use Rattle.schema_json.specs.declared.types.RecordType.{RecordType, out-RecordType}
use Rattle.schema_json.specs.declared.types.TypeOfAttribute.{TypeOfAttribute, out-TypeOfAttribute}
use Rattle.schema_json.specs.declared.common_type.CommonType.{CommonType}
use Rattle.schema_json.specs.declared.common_type.CommonTypeId.{CommonTypeId}
use Rattle.schema_json.specs.declared.entity_type.EntityType.{EntityType}
use Rattle.schema_json.specs.declared.entity_type.EntityTypeKind.{EntityTypeKind}
use Rattle.schema_json.specs.declared.entity_type.EntityTypeKind.TheVariants.{Standard, Enum}
use Rattle.schema_json.specs.declared.action_type.ActionType.{ActionType}
use Rattle.schema_json.specs.declared.action_type.ActionEntityUID.{ActionEntityUID}
use Rattle.schema_json.specs.declared.fragment.Fragment.{Fragment}
use Rattle.schema_json.specs.declared.fragment.NamespaceDefinition.{NamespaceDefinition}
use Rattle.schema_json.specs.Orders.{namespace_cmp}
use Rattle.schema_json_shapes.specs.Tables.{word_of}
use Rattle.schema_json_shapes.specs.declared.words.TypeWord.TheVariants.{Reference}
use Rattle.schema_json_walk.specs.Bare.{is_bare_entity, is_bare_action}

abbrev pub IsCharacters : List ℕ → Type 0
IsCharacters t = all_scalars t ≡ true

-- the annotations rise by their keys
pub record AreSayableNotes (a : Annotations) : Type 0 where
  pub rise : IsStrictlySortedBy text_cmp (map (λ n. n.0.text) a.0)
  pub values : AllByRecursion (λ n. IfSome n.1 IsCharacters) a.0

-- the name is none of the words of types
abbrev pub IsNoTypeWord : RawName → Type 0
IsNoTypeWord n = word_of (name_text (components_of n.name)) ≡ Reference

mutual
  -- attributes rise by their names, and no reference to a common type is spelled as a word of types
  pub data IsSayableType : «Type» RawName → Type 0 where
    sayable_string : (loc : Option Loc) → IsSayableType (Variant variant.String loc)
    sayable_long : (loc : Option Loc) → IsSayableType (Variant variant.Long loc)
    sayable_boolean : (loc : Option Loc) → IsSayableType (Variant variant.Boolean loc)
    sayable_set : (loc : Option Loc) (t : «Type» RawName) → IsSayableType t
        → IsSayableType (Variant (variant.Set t) loc)
    sayable_record : (loc : Option Loc) (r : RecordType RawName)
        → IsStrictlySortedBy text_cmp (keys_of (out-RecordType RawName r).attributes)
        → AreSayableAttributes (out-RecordType RawName r).attributes → IsSayableType (Variant (variant.Record r) loc)
    sayable_entity : (loc : Option Loc) (n : RawName) → IsSayableType (Variant (variant.Entity n) loc)
    sayable_either : (loc : Option Loc) (n : RawName) → IsSayableType (Variant (variant.EntityOrCommon n) loc)
    sayable_extension : (loc : Option Loc) (id : UnreservedId) → IsSayableType (Variant (variant.Extension id) loc)
    sayable_reference : (loc : Option Loc) (n : RawName) → IsNoTypeWord n → IsSayableType (CommonTypeRef n loc)

  pub data AreSayableAttributes : List (List ℕ × TypeOfAttribute RawName) → Type 0 where
    no_attribute : AreSayableAttributes []
    next_attribute : (name : List ℕ) (a : TypeOfAttribute RawName) (es : List (List ℕ × TypeOfAttribute RawName))
        → IsCharacters name → AreSayableNotes (out-TypeOfAttribute RawName a).annotations
        → IsSayableType (out-TypeOfAttribute RawName a).ty → AreSayableAttributes es
        → AreSayableAttributes ((name, a) ∷ es)

-- its name is none that no common type may have
pub record IsSayableCommon (id : CommonTypeId) (c : CommonType RawName) : Type 0 where
  pub free : is_keyword_name id.id.id.text ≡ false
  pub type_is_sayable : IsSayableType c.ty
  pub notes : AreSayableNotes c.annotations

abbrev pub IsSayableKind : EntityTypeKind RawName → Type 0
IsSayableKind (Standard s) = IsSayableType s.shape.0 × IfSome s.tags IsSayableType
IsSayableKind (Enum choices) = (choices ≢ []) × AllByRecursion (λ (e : Eid). IsCharacters e.0) choices

pub record IsSayableEntity (e : EntityType RawName) : Type 0 where
  pub kind_is_sayable : IsSayableKind e.kind
  pub bare : e.external ≡ true → is_bare_entity e ≡ true
  pub notes : AreSayableNotes e.annotations

-- the names of attributes rise
abbrev pub AreSayableNames : List (List ℕ) → Type 0
AreSayableNames names = IsStrictlySortedBy text_cmp names × AllByRecursion IsCharacters names

module _ {G : named.Ghosts RawName} where
  abbrev pub AreSayableParents : List (ActionEntityUID RawName G) → Type 0
  AreSayableParents ids = AllByRecursion (λ (u : ActionEntityUID RawName G). IsCharacters u.id) ids

  pub record IsSayableAction (a : ActionType RawName G) : Type 0 where
    pub attributes : IfSome a.attributes AreSayableNames
    pub context : IfSome a.applies_to (λ s. IsSayableType s.context.0)
    pub parents : IfSome a.member_of AreSayableParents
    pub bare : a.external ≡ true → is_bare_action a ≡ true
    pub notes : AreSayableNotes a.annotations

  pub record IsSayableNamespace (key : Option Name) (n : NamespaceDefinition RawName G) : Type 0 where
    pub commons_rise : IsStrictlySortedBy text_cmp (map (λ e. e.0.id.id.text) n.common_types)
    pub entities_rise : IsStrictlySortedBy text_cmp (map (λ e. e.0.id.text) n.entity_types)
    pub actions_rise : IsStrictlySortedBy text_cmp (keys_of n.actions)
    pub commons : AllByRecursion (λ e. IsSayableCommon e.0 e.1) n.common_types
    pub entities : AllByRecursion (λ e. IsSayableEntity e.1) n.entity_types
    pub actions : AllByRecursion (λ e. IsCharacters e.0 × IsSayableAction e.1) n.actions
    pub notes : AreSayableNotes n.annotations
    pub unannotated : key ≡ None → n.annotations.0 ≡ []

  -- The JSON value of the fragment says it again, places aside. As in memory, its texts are of characters, its maps
  -- rise by their keys, and each enum has a choice; besides, no reference to a common type is spelled as a word of
  -- types, no common type has a name that none may have, what another schema declares is bare, and the empty namespace
  -- has no annotations.
  pub record IsSayableFragment (f : Fragment RawName G) : Type 0 where
    pub names_rise : IsStrictlySortedBy namespace_cmp (keys_of f.0)
    pub each : AllByRecursion (λ e. IsSayableNamespace e.0 e.1) f.0
