-- What the value of a fragment says in the deprecated form, part by part.
use Rattle.std.specs.Prelude.{◌≡◌, true, false, [], codes, Option, Some, None}
use Rattle.serde_json.specs.Data.{Data, object, Members}
use Rattle.serde_json.specs.Find.{get_member}
use Rattle.cedar_data.specs.Text.{text_cmp}
use Rattle.schema_json.specs.Orders.{unreserved_cmp, common_cmp}
use Rattle.schema_json_shapes.specs.declared.shape_fault.ShapeFault.{ShapeFault}
use Rattle.schema_json_shapes.specs.Walk.{AllMet, FirstUnmet, flag_or}
use Rattle.schema_json_shapes.specs.Said.{IsId, IsText, IsNamed, IsOptional, not_null, IsList, IsListOrNone, IsMap}
use Rattle.schema_json_shapes.specs.Said.{IsMapOrNone}
use Rattle.schema_json_shapes.specs.Shapes.{AreKeys, IsTextIn, IsCommonId}
use Rattle.schema_compat_types.specs.declared.types.SchemaType.{SchemaType}
use Rattle.schema_compat_types.specs.declared.types.SchemaType.TheVariants.{Variant}
use Rattle.schema_compat_types.specs.declared.types.SchemaTypeVariant.TheVariants.{Record}
use Rattle.schema_compat_types.specs.declared.entity_type.EntityType.{EntityType}
use Rattle.schema_compat_types.specs.declared.entity_type.AttributesOrContext.{AttributesOrContext}
use Rattle.schema_compat_types.specs.declared.action_type.ActionType.{ActionType}
use Rattle.schema_compat_types.specs.declared.action_type.ApplySpec.{ApplySpec}
use Rattle.schema_compat_types.specs.declared.action_type.ActionEntityUID.{ActionEntityUID}
use Rattle.schema_compat_types.specs.declared.fragment.NamespaceDefinition.{NamespaceDefinition}
use Rattle.schema_compat_types.specs.declared.fragment.SchemaFragment.{SchemaFragment}
use Rattle.schema_compat_types.specs.declared.types.TypeOfAttribute.{TypeOfAttribute, out-TypeOfAttribute}
use Rattle.schema_compat_shapes.specs.OldTypes.{SaysOldType}
use Rattle.schema_compat_shapes.specs.OldWalk.{old_demands}

-- an object of which this holds
abbrev pub InObject : {X : Type 0} → (Members → X → Type 0) → Data → X → Type 0
InObject P (object ms) x = P ms x
InObject P _ x = ⊥

-- ---- types, shapes and contexts

-- a type, and whether each record has the attribute
pub record IsOldAttributeIn (ms : Members) (a : TypeOfAttribute) : Type 0 where
  pub says : SaysOldType true ms (out-TypeOfAttribute a).ty
  pub marked : (out-TypeOfAttribute a).required ≡ flag_or true (get_member (codes "required") ms)

-- the value is an object that says the attribute
abbrev pub IsOldAttribute : Data → TypeOfAttribute → Type 0
IsOldAttribute d a = InObject IsOldAttributeIn d a

-- the value is an object that says the type, other than that of an attribute
abbrev pub IsOldType : Data → SchemaType → Type 0
IsOldType d t = InObject (SaysOldType false) d t

-- the closed record without attributes
abbrev pub old_empty_record : SchemaType
old_empty_record = Variant (Record [] false)

-- a shape or a context, which is the closed record without attributes where it is absent
abbrev pub IsOldShape : Option Data → AttributesOrContext → Type 0
IsOldShape None s = s.0 ≡ old_empty_record
IsOldShape (Some d) s = IsOldType d s.0

pub record IsOldEntityTypeIn (ms : Members) (e : EntityType) : Type 0 where
  pub parents : IsListOrNone IsNamed (get_member (codes "memberOfTypes") ms) e.member_of_types
  pub shaped : IsOldShape (get_member (codes "shape") ms) e.shape

-- the value is an object that says the entity type: its parents and its shape
abbrev pub IsOldEntityType : Data → EntityType → Type 0
IsOldEntityType d e = InObject IsOldEntityTypeIn d e

-- ---- actions

pub record IsOldActionIdIn (ms : Members) (u : ActionEntityUID) : Type 0 where
  pub named : IsTextIn (get_member (codes "id") ms) u.id
  pub typed : IsOptional IsNamed (not_null (get_member (codes "type") ms)) u.ty

-- the value is an object that says the reference to an action
abbrev pub IsOldActionId : Data → ActionEntityUID → Type 0
IsOldActionId d u = InObject IsOldActionIdIn d u

pub record IsOldAppliesToIn (ms : Members) (a : ApplySpec) : Type 0 where
  pub resources : IsOptional (IsList IsNamed) (not_null (get_member (codes "resourceTypes") ms)) a.resource_types
  pub principals : IsOptional (IsList IsNamed) (not_null (get_member (codes "principalTypes") ms)) a.principal_types
  pub in_context : IsOldShape (get_member (codes "context") ms) a.context

-- the value is an object that says what an action applies to
abbrev pub IsOldAppliesTo : Data → ApplySpec → Type 0
IsOldAppliesTo d a = InObject IsOldAppliesToIn d a

pub record IsOldActionIn (ms : Members) (a : ActionType) : Type 0 where
  pub attributed : IsOptional AreKeys (not_null (get_member (codes "attributes") ms)) a.attributes
  pub applied : IsOptional IsOldAppliesTo (not_null (get_member (codes "appliesTo") ms)) a.applies_to
  pub parents : IsOptional (IsList IsOldActionId) (not_null (get_member (codes "memberOf") ms)) a.member_of

-- the value is an object that says the action: its attributes, what it applies to, and its parents
abbrev pub IsOldAction : Data → ActionType → Type 0
IsOldAction d a = InObject IsOldActionIn d a

-- ---- namespaces and fragments

pub record IsOldNamespaceIn (ms : Members) (n : NamespaceDefinition) : Type 0 where
  pub commons : IsMapOrNone common_cmp IsCommonId IsOldType (get_member (codes "commonTypes") ms) n.common_types
  pub entities : IsMapOrNone unreserved_cmp IsId IsOldEntityType (get_member (codes "entityTypes") ms) n.entity_types
  pub actions : IsMapOrNone text_cmp IsText IsOldAction (get_member (codes "actions") ms) n.actions

-- the value is an object that says the namespace: its common types, entity types and actions
abbrev pub IsOldNamespace : Data → NamespaceDefinition → Type 0
IsOldNamespace d n = InObject IsOldNamespaceIn d n

-- the value is an object that says the fragment, namespace by namespace, under any texts
abbrev pub IsOldFragment : Data → SchemaFragment → Type 0
IsOldFragment d s = IsMap text_cmp IsText IsOldNamespace d s.0

-- the value keeps what it must, and says the fragment
abbrev pub IsOldRead : Data → SchemaFragment → Type 0
IsOldRead d s = AllMet (old_demands d) × IsOldFragment d s

-- the first fault of reading the value in the deprecated form
abbrev pub IsFirstOldFault : Data → ShapeFault → Type 0
IsFirstOldFault d e = FirstUnmet (old_demands d) e
