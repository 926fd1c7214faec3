-- What the data of the deprecated form becomes, part by part: no part has a place or an annotation.
use Rattle.std.specs.Prelude.{◌≡◌, ℕ, Bool, false, List, [], ◌∷◌, Option, Some, None}
use Rattle.std.specs.List.{AllZip}
use Rattle.std.specs.List.Sorted.{IsStrictlySortedBy}
use Rattle.std.specs.Map.{keys_of}
use Rattle.std.specs.Option.{option_map}
use Rattle.std.specs.Str.{encode_utf8_all}
use Rattle.std.specs.declared.cmp.Ordering.{Ordering}
use Rattle.cedar_data.specs.Maps.{map_of}
use Rattle.cedar_data.specs.Text.{text_cmp}
use Rattle.cedar_identifiers.specs.declared.annotations.Annotations.{Annotations}
use Rattle.cedar_identifiers.specs.declared.name.Name.{Name}
use Rattle.cedar_identifiers.specs.declared.name_text.NameText as ghosts
use Rattle.cedar_identifiers.specs.declared.raw_name.RawName.{RawName}
use Rattle.cedar_identifiers.specs.declared.unreserved_id.UnreservedId.{UnreservedId}
use Rattle.schema_json.specs.declared.types.Type.{«Type»}
use Rattle.schema_json.specs.declared.types.Type.TheVariants.{CommonTypeRef}
use Rattle.schema_json.specs.declared.types.TypeVariant.{TypeVariant}
use Rattle.schema_json.specs.declared.types.TypeVariant.TheVariants as variant
use Rattle.schema_json.specs.declared.types.RecordType.{roll-RecordType}
use Rattle.schema_json.specs.declared.types.TypeOfAttribute.{TypeOfAttribute, roll-TypeOfAttribute}
use Rattle.schema_json.specs.declared.common_type.CommonType.{CommonType}
use Rattle.schema_json.specs.declared.entity_type.EntityType.{EntityType}
use Rattle.schema_json.specs.declared.entity_type.EntityTypeKind.TheVariants.{Standard}
use Rattle.schema_json.specs.declared.action_type.ActionType.{ActionType}
use Rattle.schema_json.specs.declared.action_type.ActionEntityUID.{ActionEntityUID}
use Rattle.schema_json.specs.declared.action_type.ApplySpec.{ApplySpec}
use Rattle.schema_json.specs.declared.fragment.Fragment.{Fragment}
use Rattle.schema_json.specs.declared.fragment.NamespaceDefinition.{NamespaceDefinition}
use Rattle.schema_json.specs.Orders.{unreserved_cmp, common_cmp, namespace_cmp}
use Rattle.schema_json_shapes.specs.Said.{IsRawName, IsId, plain}
use Rattle.schema_json_shapes.specs.Shapes.{IsNamespaceKey}
use Rattle.schema_json_shapes.specs.Walk.{AllMet, FirstUnmet}
use Rattle.schema_json_shapes.specs.declared.shape_fault.ShapeFault.{ShapeFault}
use Rattle.schema_compat_types.specs.declared.types.SchemaType.{SchemaType}
use Rattle.schema_compat_types.specs.declared.types.SchemaType.TheVariants as written
use Rattle.schema_compat_types.specs.declared.types.SchemaTypeVariant.{SchemaTypeVariant}
use Rattle.schema_compat_types.specs.declared.types.SchemaTypeVariant.TheVariants as shape
use Rattle.schema_compat_types.specs.declared.types.TypeOfAttribute.{TypeOfAttribute as OldAttribute}
use Rattle.schema_compat_types.specs.declared.types.TypeOfAttribute.{out-TypeOfAttribute}
use Rattle.schema_compat_types.specs.declared.entity_type.EntityType.{EntityType as OldEntityType}
use Rattle.schema_compat_types.specs.declared.action_type.ActionType.{ActionType as OldAction}
use Rattle.schema_compat_types.specs.declared.action_type.ActionEntityUID.{ActionEntityUID as OldUid}
use Rattle.schema_compat_types.specs.declared.action_type.ApplySpec.{ApplySpec as OldApply}
use Rattle.schema_compat_types.specs.declared.fragment.NamespaceDefinition.{NamespaceDefinition as OldNamespace}
use Rattle.schema_compat_types.specs.declared.fragment.SchemaFragment.{SchemaFragment}
use Rattle.schema_compat_convert.specs.Demands.{asks_fragment}

abbrev pub no_annotations : Annotations
no_annotations = record { 0 = [] }

-- ---- types

abbrev pub converted_attribute : «Type» RawName → Bool → TypeOfAttribute RawName
converted_attribute t required =
    roll-TypeOfAttribute RawName (record { ty = t; annotations = no_annotations; required = required })

abbrev pub record_shape : List (List ℕ × TypeOfAttribute RawName) → Bool → TypeVariant RawName
record_shape attributes is_open =
    variant.Record (roll-RecordType RawName (record { attributes = attributes; additional_attributes = is_open }))

mutual
  -- a type of the deprecated form becomes a type, which has no place
  pub data TypeBecomes : SchemaType → «Type» RawName → Type 0 where
    of_shape : (v : SchemaTypeVariant) (w : TypeVariant RawName) → ShapeBecomes v w
        → TypeBecomes (written.Variant v) (plain w)
    of_reference : (text : List ℕ) (n : RawName) → IsRawName (encode_utf8_all text) n
        → TypeBecomes (written.TypeDef text) (CommonTypeRef n None)

  -- the shape of a type of the deprecated form becomes the shape of a type
  pub data ShapeBecomes : SchemaTypeVariant → TypeVariant RawName → Type 0 where
    of_string : ShapeBecomes shape.String variant.String
    of_long : ShapeBecomes shape.Long variant.Long
    of_boolean : ShapeBecomes shape.Boolean variant.Boolean
    of_set : (s : SchemaType) (t : «Type» RawName) → TypeBecomes s t → ShapeBecomes (shape.Set s) (variant.Set t)
    -- the attributes stand in the order of their names
    of_record : (es : List (List ℕ × OldAttribute)) (fs : List (List ℕ × TypeOfAttribute RawName)) (is_open : Bool)
        → IsStrictlySortedBy text_cmp (keys_of es) → AttributesBecome es fs
        → ShapeBecomes (shape.Record es is_open) (record_shape fs is_open)
    of_entity : (text : List ℕ) (n : RawName) → IsRawName (encode_utf8_all text) n
        → ShapeBecomes (shape.Entity text) (variant.Entity n)
    of_extension : (text : List ℕ) (id : UnreservedId) → IsId (encode_utf8_all text) id
        → ShapeBecomes (shape.Extension text) (variant.Extension id)

  -- the attributes of the deprecated form become attributes, one by one, without annotations
  pub data AttributesBecome : List (List ℕ × OldAttribute) → List (List ℕ × TypeOfAttribute RawName) → Type 0 where
    no_attribute : AttributesBecome [] []
    next_attribute : (k : List ℕ) (a : OldAttribute) (t : «Type» RawName) (es : List (List ℕ × OldAttribute))
        (fs : List (List ℕ × TypeOfAttribute RawName)) → TypeBecomes (out-TypeOfAttribute a).ty t
        → AttributesBecome es fs
        → AttributesBecome ((k, a) ∷ es) ((k, converted_attribute t (out-TypeOfAttribute a).required) ∷ fs)

-- ---- what is declared

-- each value becomes the one at its place, under an equal key
abbrev pub ValuesBecome : {K V W : Type 0} → (V → W → Type 0) → List (K × V) → List (K × W) → Type 0
ValuesBecome Becomes es fs = AllZip (λ e f. (f.0 ≡ e.0) × Becomes e.1 f.1) es fs

-- the keys of a map rise, and each value becomes the one at its place, under an equal key
abbrev pub MapBecomes : {K V W : Type 0} → (K → K → Ordering) → (V → W → Type 0) → List (K × V) → List (K × W) → Type 0
MapBecomes order Becomes es fs = IsStrictlySortedBy order (keys_of es) × ValuesBecome Becomes es fs

-- the type becomes that of a common type, which has neither annotations nor a place
pub record CommonTypeBecomes (s : SchemaType) (c : CommonType RawName) : Type 0 where
  pub ty : TypeBecomes s c.ty
  pub bare : c.annotations ≡ no_annotations
  pub placeless : c.loc ≡ None

-- the entity type becomes a standard one that is not external, without tags, annotations and a place
pub record EntityTypeBecomes (e : OldEntityType) (f : EntityType RawName) : Type 0 where
  pub ty : «Type» RawName
  pub kind : f.kind
      ≡ Standard (record { member_of_types = e.member_of_types; shape = record { 0 = ty }; tags = None })
  pub shaped : TypeBecomes e.shape.0 ty
  pub own : f.external ≡ false
  pub bare : f.annotations ≡ no_annotations
  pub placeless : f.loc ≡ None

-- what an action applies to keeps both lists, which are there, and its context becomes the context
pub record ApplyBecomes (a : OldApply) (b : ApplySpec RawName) : Type 0 where
  pub resources : a.resource_types ≡ Some b.resource_types
  pub principals : a.principal_types ≡ Some b.principal_types
  pub in_context : TypeBecomes a.context.0 b.context.0

-- a part that may be absent stays so
abbrev pub OptionBecomes : {A B : Type 0} → (A → B → Type 0) → Option A → Option B → Type 0
OptionBecomes Becomes None None = Unit {0}
OptionBecomes Becomes (Some a) (Some b) = Becomes a b
OptionBecomes Becomes _ _ = ⊥

-- attributes that are there become none
abbrev pub no_names : Option (List (List ℕ)) → Option (List (List ℕ))
no_names attributes = option_map (λ names. []) attributes

module _ {G : ghosts.Ghosts RawName} where
  -- the reference to an action keeps its id and its type
  abbrev pub UidBecomes : OldUid → ActionEntityUID RawName G → Type 0
  UidBecomes u v = (v.id ≡ u.id) × (v.ty ≡ u.ty)

  -- the action becomes one that is not external, without annotations and a place; the list of its attributes, where one
  -- is written, becomes empty
  pub record ActionBecomes (a : OldAction) (b : ActionType RawName G) : Type 0 where
    pub attributed : b.attributes ≡ no_names a.attributes
    pub applied : OptionBecomes ApplyBecomes a.applies_to b.applies_to
    pub parents : OptionBecomes (AllZip UidBecomes) a.member_of b.member_of
    pub own : b.external ≡ false
    pub bare : b.annotations ≡ no_annotations
    pub placeless : b.loc ≡ None

  -- ---- namespaces and fragments

  -- what the namespace declares becomes what is declared, map by map, without annotations
  pub record NamespaceBecomes (n : OldNamespace) (m : NamespaceDefinition RawName G) : Type 0 where
    pub commons : MapBecomes common_cmp CommonTypeBecomes n.common_types m.common_types
    pub entities : MapBecomes unreserved_cmp EntityTypeBecomes n.entity_types m.entity_types
    pub actions : MapBecomes text_cmp ActionBecomes n.actions m.actions
    pub bare : m.annotations ≡ no_annotations

  -- a namespace under its name, which the text is
  abbrev pub EntryBecomes : List ℕ × OldNamespace → Option Name × NamespaceDefinition RawName G → Type 0
  EntryBecomes e f = IsNamespaceKey (encode_utf8_all e.0) f.0 × NamespaceBecomes e.1 f.1

  -- each namespace becomes one under the name that its text is, and the fragment is the map of these
  abbrev pub FragmentBecomes : SchemaFragment → Fragment RawName G → Type 0
  FragmentBecomes s f =
      (entries : List (Option Name × NamespaceDefinition RawName G)) × AllZip EntryBecomes s.0 entries
      × (f.0 ≡ map_of namespace_cmp entries)

  -- the data keeps what it must, and becomes the fragment
  abbrev pub IsConverted : SchemaFragment → Fragment RawName G → Type 0
  IsConverted s f = AllMet (asks_fragment s) × FragmentBecomes s f

-- the first fault of the data
abbrev pub IsFirstConversionFault : SchemaFragment → ShapeFault → Type 0
IsFirstConversionFault s e = FirstUnmet (asks_fragment s) e
