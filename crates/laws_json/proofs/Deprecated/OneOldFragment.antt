-- What a value says in the deprecated form is one.
use Rattle.std.proofs.Common.{◌≡◌, Option, Some, None, sym, ◌∙◌}
use Rattle.std.specs.Prelude.{codes}
use Rattle.serde_json.specs.Data.{Data, Members}
use Rattle.serde_json.specs.Find.{get_member}
use Rattle.cedar_data.specs.Text.{text_cmp}
use Rattle.schema_json.specs.Orders.{unreserved_cmp, common_cmp}
use Rattle.schema_json_shapes.specs.Said.{IsId, IsText, IsNamed, IsList, not_null}
use Rattle.schema_json_shapes.specs.Shapes.{AreKeys, IsCommonId}
use Rattle.schema_compat_types.specs.declared.entity_type.AttributesOrContext.{AttributesOrContext}
use Rattle.schema_compat_types.specs.declared.entity_type.EntityType.{EntityType}
use Rattle.schema_compat_types.specs.declared.action_type.ActionType.{ActionType}
use Rattle.schema_compat_types.specs.declared.action_type.ApplySpec.{ApplySpec}
use Rattle.schema_compat_types.specs.declared.action_type.ActionEntityUID.{ActionEntityUID}
use Rattle.schema_compat_types.specs.declared.fragment.NamespaceDefinition.{NamespaceDefinition}
use Rattle.schema_compat_types.specs.declared.fragment.SchemaFragment.{SchemaFragment}
use Rattle.schema_compat_shapes.specs.OldParts.{IsOldType, IsOldShape, IsOldEntityTypeIn, IsOldEntityType}
use Rattle.schema_compat_shapes.specs.OldParts.{IsOldActionIdIn, IsOldActionId, IsOldAppliesToIn, IsOldAppliesTo}
use Rattle.schema_compat_shapes.specs.OldParts.{IsOldActionIn, IsOldAction, IsOldNamespaceIn, IsOldNamespace}
use Rattle.schema_compat_shapes.specs.OldParts.{IsOldFragment}
use Rattle.laws_json.proofs.Current.OneShape.{one_id, optional_once, list_once, list_or_none_once, map_once}
use Rattle.laws_json.proofs.Current.OneShape.{map_or_none_once}
use Rattle.laws_json.proofs.Current.OneFragment.{named_once, keys_once, names_once, text_in_once, text_once}
use Rattle.laws_json.proofs.Current.OneFragment.{common_id_once}
use Rattle.laws_json.proofs.Deprecated.OneOldShape.{in_object_once, one_type_value}

shape_once : (o : Option Data) (s t : AttributesOrContext) → IsOldShape o s → IsOldShape o t → s ≡ t
shape_once None s t h k = λ i. record { 0 = (h ∙ sym k) i }
shape_once (Some d) s t h k = λ i. record { 0 = one_type_value d s.0 t.0 h k i }

entity_once : (ms : Members) (a b : EntityType) → IsOldEntityTypeIn ms a → IsOldEntityTypeIn ms b → a ≡ b
entity_once ms a b h k = λ i. record {
  member_of_types = list_or_none_once IsNamed named_once (get_member (codes "memberOfTypes") ms) a.member_of_types
      b.member_of_types h.parents k.parents i;
  shape = shape_once (get_member (codes "shape") ms) a.shape b.shape h.shaped k.shaped i;
}

-- ---- actions

action_id_once : (ms : Members) (a b : ActionEntityUID) → IsOldActionIdIn ms a → IsOldActionIdIn ms b → a ≡ b
action_id_once ms a b h k = λ i. record {
  id = text_in_once (get_member (codes "id") ms) a.id b.id h.named k.named i;
  ty = optional_once IsNamed named_once (not_null (get_member (codes "type") ms)) a.ty b.ty h.typed k.typed i;
}

applies_once : (ms : Members) (a b : ApplySpec) → IsOldAppliesToIn ms a → IsOldAppliesToIn ms b → a ≡ b
applies_once ms a b h k = λ i. record {
  resource_types = optional_once (IsList IsNamed) names_once (not_null (get_member (codes "resourceTypes") ms))
      a.resource_types b.resource_types h.resources k.resources i;
  principal_types = optional_once (IsList IsNamed) names_once (not_null (get_member (codes "principalTypes") ms))
      a.principal_types b.principal_types h.principals k.principals i;
  context = shape_once (get_member (codes "context") ms) a.context b.context h.in_context k.in_context i;
}

action_once : (ms : Members) (a b : ActionType) → IsOldActionIn ms a → IsOldActionIn ms b → a ≡ b
action_once ms a b h k = λ i. record {
  attributes = optional_once AreKeys keys_once (not_null (get_member (codes "attributes") ms)) a.attributes
      b.attributes h.attributed k.attributed i;
  applies_to = optional_once IsOldAppliesTo (in_object_once IsOldAppliesToIn applies_once)
      (not_null (get_member (codes "appliesTo") ms)) a.applies_to b.applies_to h.applied k.applied i;
  member_of = optional_once (IsList IsOldActionId)
      (list_once IsOldActionId (in_object_once IsOldActionIdIn action_id_once))
      (not_null (get_member (codes "memberOf") ms)) a.member_of b.member_of h.parents k.parents i;
}

-- ---- namespaces

namespace_once : (ms : Members) (a b : NamespaceDefinition) → IsOldNamespaceIn ms a → IsOldNamespaceIn ms b → a ≡ b
namespace_once ms a b h k = λ i. record {
  common_types = map_or_none_once common_cmp IsCommonId IsOldType common_id_once one_type_value
      (get_member (codes "commonTypes") ms) a.common_types b.common_types h.commons k.commons i;
  entity_types = map_or_none_once unreserved_cmp IsId IsOldEntityType one_id
      (in_object_once IsOldEntityTypeIn entity_once)
      (get_member (codes "entityTypes") ms) a.entity_types b.entity_types h.entities k.entities i;
  actions = map_or_none_once text_cmp IsText IsOldAction text_once (in_object_once IsOldActionIn action_once)
      (get_member (codes "actions") ms) a.actions b.actions h.actions k.actions i;
}

pub one_old_fragment : (d : Data) (f g : SchemaFragment) → IsOldFragment d f → IsOldFragment d g → f ≡ g
one_old_fragment d f g h k =
    let same = map_once text_cmp IsText IsOldNamespace text_once (in_object_once IsOldNamespaceIn namespace_once) d f.0
    g.0 h k in
    λ i. record { 0 = same i }
