-- What the value of a fragment says, part by part.
use Rattle.std.specs.Prelude.{◌≡◌, ℕ, false, List, [], ◌∷◌, codes, Option, Some, None}
use Rattle.std.specs.Str.{chars}
use Rattle.serde_json.specs.Data.{Data, string, object, Members, no_members, member}
use Rattle.serde_json.specs.Find.{get_member}
use Rattle.cedar_data.specs.Text.{text_cmp}
use Rattle.cedar_identifiers.specs.Names.{components_of}
use Rattle.cedar_identifiers.specs.NameReading.{ReadsAs}
use Rattle.cedar_identifiers.specs.declared.name_kind.NameKind.TheVariants as kind
use Rattle.cedar_identifiers.specs.declared.name.Name.{Name}
use Rattle.cedar_identifiers.specs.declared.name_text.NameText as ghosts
use Rattle.cedar_identifiers.specs.declared.raw_name.RawName.{RawName}
use Rattle.schema_json.specs.Shapes.{record_type, empty_record}
use Rattle.schema_json.specs.declared.types.Type.{«Type»}
use Rattle.schema_json.specs.declared.common_type.CommonType.{CommonType}
use Rattle.schema_json.specs.declared.common_type.CommonTypeId.{CommonTypeId}
use Rattle.schema_json.specs.declared.entity_type.EntityType.{EntityType}
use Rattle.schema_json.specs.declared.entity_type.EntityTypeKind.{EntityTypeKind}
use Rattle.schema_json.specs.declared.entity_type.EntityTypeKind.TheVariants.{Standard, Enum}
use Rattle.schema_json.specs.declared.entity_type.StandardEntityType.{StandardEntityType}
use Rattle.schema_json.specs.declared.action_type.ActionType.{ActionType}
use Rattle.schema_json.specs.declared.action_type.ActionEntityUID.{ActionEntityUID}
use Rattle.schema_json.specs.declared.action_type.ApplySpec.{ApplySpec}
use Rattle.schema_json.specs.declared.fragment.Fragment.{Fragment}
use Rattle.schema_json.specs.declared.fragment.NamespaceDefinition.{NamespaceDefinition}
use Rattle.schema_json.specs.Orders.{unreserved_cmp, common_cmp, namespace_cmp}
use Rattle.schema_json_shapes.specs.declared.shape_fault.ShapeFault.{ShapeFault}
use Rattle.schema_json_shapes.specs.Walk.{fragment, demands, AllMet, FirstUnmet, flag_or}
use Rattle.schema_json_shapes.specs.Said.{IsId, IsText, IsNamed, IsChoice, IsOptional, not_null, IsList, IsListOrNone}
use Rattle.schema_json_shapes.specs.Said.{IsMap, IsMapOrNone, IsAnnotationMap, IsType}

-- ---- common types and entity types

-- a shape or a context, which is the empty record where it is absent
abbrev pub IsShapeOrNone : Option Data → «Type» RawName → Type 0
IsShapeOrNone None t = t ≡ record_type empty_record
IsShapeOrNone (Some d) t = IsType d t

pub record IsCommonTypeIn (ms : Members) (c : CommonType RawName) : Type 0 where
  pub says : IsType (object ms) c.ty
  pub annotated : IsAnnotationMap (get_member (codes "annotations") ms) c.annotations
  pub placeless : c.loc ≡ None

-- the value is an object that says the common type: its type and its annotations, without a place
abbrev pub IsCommonType : Data → CommonType RawName → Type 0
IsCommonType (object ms) c = IsCommonTypeIn ms c
IsCommonType _ c = ⊥

pub record IsStandardEntity (ms : Members) (s : StandardEntityType RawName) : Type 0 where
  pub no_enum : get_member (codes "enum") ms ≡ None
  pub parents : IsListOrNone IsNamed (get_member (codes "memberOfTypes") ms) s.member_of_types
  pub shaped : IsShapeOrNone (get_member (codes "shape") ms) s.shape.0
  pub tagged : IsOptional IsType (get_member (codes "tags") ms) s.tags

-- the members say the kind: an enum where `enum` is there, and else a standard entity type
abbrev pub IsKind : Members → EntityTypeKind RawName → Type 0
IsKind ms (Standard s) = IsStandardEntity ms s
IsKind ms (Enum choices) = (d : Data) × (get_member (codes "enum") ms ≡ Some d) × IsList IsChoice d choices

pub record IsEntityTypeIn (ms : Members) (e : EntityType RawName) : Type 0 where
  pub is_kind : IsKind ms e.kind
  pub marked : e.external ≡ flag_or false (get_member (codes "external") ms)
  pub annotated : IsAnnotationMap (get_member (codes "annotations") ms) e.annotations
  pub placeless : e.loc ≡ None

-- the value is an object that says the entity type: its kind, whether it is external, its annotations, and no place
abbrev pub IsEntityType : Data → EntityType RawName → Type 0
IsEntityType (object ms) e = IsEntityTypeIn ms e
IsEntityType _ e = ⊥

-- ---- actions

-- the characters of the keys, in turn
abbrev pub key_texts : Members → List (List ℕ)
key_texts no_members = []
key_texts (member k d ms) = chars k ∷ key_texts ms

-- the value is an object, and these are its keys
abbrev pub AreKeys : Data → List (List ℕ) → Type 0
AreKeys (object ms) ks = ks ≡ key_texts ms
AreKeys _ ks = ⊥

pub record IsAppliesToIn (ms : Members) (a : ApplySpec RawName) : Type 0 where
  pub resources : (d : Data) × (get_member (codes "resourceTypes") ms ≡ Some d) × IsList IsNamed d a.resource_types
  pub principals : (d : Data) × (get_member (codes "principalTypes") ms ≡ Some d) × IsList IsNamed d a.principal_types
  pub in_context : IsShapeOrNone (get_member (codes "context") ms) a.context.0

-- the value is an object that says what an action applies to: resources, principals and the context
abbrev pub IsAppliesTo : Data → ApplySpec RawName → Type 0
IsAppliesTo (object ms) a = IsAppliesToIn ms a
IsAppliesTo _ a = ⊥

-- the value is there, and is a text of these characters
abbrev pub IsTextIn : Option Data → List ℕ → Type 0
IsTextIn (Some (string s)) t = t ≡ chars s
IsTextIn _ t = ⊥

-- the text is the name of a namespace, which has no place
abbrev pub IsNamespaceName : List ℕ → Name → Type 0
IsNamespaceName s n = ReadsAs kind.Name s (components_of n.name) × (n.name.loc ≡ None)

-- the key of a namespace: the empty text is that of the empty one, and any other text is the name
abbrev pub IsNamespaceKey : List ℕ → Option Name → Type 0
IsNamespaceKey [] key = key ≡ None
IsNamespaceKey (c ∷ s) key = (n : Name) × (key ≡ Some n) × IsNamespaceName (c ∷ s) n

-- the text is the name of a common type, which is a word
abbrev pub IsCommonId : List ℕ → CommonTypeId → Type 0
IsCommonId s id = IsId s id.id

module _ {G : ghosts.Ghosts RawName} where
  pub record IsActionIdIn (ms : Members) (u : ActionEntityUID RawName G) : Type 0 where
    pub named : IsTextIn (get_member (codes "id") ms) u.id
    pub typed : IsOptional IsNamed (not_null (get_member (codes "type") ms)) u.ty

  -- the value is an object that says the reference to an action: its id, and its type where one is written
  abbrev pub IsActionId : Data → ActionEntityUID RawName G → Type 0
  IsActionId (object ms) u = IsActionIdIn ms u
  IsActionId _ u = ⊥

  pub record IsActionIn (ms : Members) (a : ActionType RawName G) : Type 0 where
    pub attributed : IsOptional AreKeys (not_null (get_member (codes "attributes") ms)) a.attributes
    pub applied : IsOptional IsAppliesTo (not_null (get_member (codes "appliesTo") ms)) a.applies_to
    pub parents : IsOptional (IsList IsActionId) (not_null (get_member (codes "memberOf") ms)) a.member_of
    pub marked : a.external ≡ flag_or false (get_member (codes "external") ms)
    pub annotated : IsAnnotationMap (get_member (codes "annotations") ms) a.annotations
    pub placeless : a.loc ≡ None

  -- the value is an object that says the action: its parts, whether it is external, its annotations, and no place
  abbrev pub IsAction : Data → ActionType RawName G → Type 0
  IsAction (object ms) a = IsActionIn ms a
  IsAction _ a = ⊥

  -- ---- namespaces and fragments

  pub record IsNamespaceIn (ms : Members) (n : NamespaceDefinition RawName G) : Type 0 where
    pub commons : IsMapOrNone common_cmp IsCommonId IsCommonType (get_member (codes "commonTypes") ms)
        n.common_types
    pub entities : IsMapOrNone unreserved_cmp IsId IsEntityType (get_member (codes "entityTypes") ms) n.entity_types
    pub actions : IsMapOrNone text_cmp IsText IsAction (get_member (codes "actions") ms) n.actions
    pub annotated : IsAnnotationMap (get_member (codes "annotations") ms) n.annotations

  -- the value is an object that says the namespace: its common types, entity types and actions, and its annotations
  abbrev pub IsNamespace : Data → NamespaceDefinition RawName G → Type 0
  IsNamespace (object ms) n = IsNamespaceIn ms n
  IsNamespace _ n = ⊥

  -- the value says the fragment
  abbrev pub IsFragment : Data → Fragment RawName G → Type 0
  IsFragment d f = IsMap namespace_cmp IsNamespaceKey IsNamespace d f.0

  -- the value is lawful, and says the fragment
  abbrev pub JsonShape : Data → Fragment RawName G → Type 0
  JsonShape d f = AllMet (demands fragment [] d) × IsFragment d f

-- the first fault of the value
abbrev pub IsShapeFault : Data → ShapeFault → Type 0
IsShapeFault d e = FirstUnmet (demands fragment [] d) e
