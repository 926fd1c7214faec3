-- A value says one fragment, and has one fault.
use Rattle.std.proofs.Common.{◌≡◌, ℕ, List, [], ◌∷◌, Option, Some, None, inl, inr, sym, ap, ◌∙◌}
use Rattle.std.proofs.lemmas.Option.{none-some}
use Rattle.std.specs.Prelude.{codes}
use Rattle.std.specs.Str.{chars}
use Rattle.serde_json.specs.Data.{Data, null, boolean, number, string, array, object, Members}
use Rattle.serde_json.specs.Find.{get_member}
use Rattle.cedar_data.specs.Text.{text_cmp}
use Rattle.cedar_identifiers.specs.Names.{components_of}
use Rattle.cedar_identifiers.specs.declared.eid.Eid.{Eid}
use Rattle.cedar_identifiers.specs.declared.name.Name.{Name}
use Rattle.cedar_identifiers.specs.declared.name_kind.NameKind.TheVariants as kind
use Rattle.cedar_identifiers.specs.declared.name_text.NameText as ghosts
use Rattle.cedar_identifiers.specs.declared.raw_name.RawName.{RawName}
use Rattle.cedar_identifiers.proofs.Same.{name_same, unreserved_id_same}
use Rattle.cedar_identifiers.proofs.Unique.{one_name, one_fault}
use Rattle.schema_json.specs.declared.types.Type.{«Type»}
use Rattle.schema_json.specs.declared.common_type.CommonType.{CommonType}
use Rattle.schema_json.specs.declared.common_type.CommonTypeId.{CommonTypeId}
use Rattle.schema_json.specs.declared.entity_type.EntityType.{EntityType}
use Rattle.schema_json.specs.declared.entity_type.EntityTypeKind.{EntityTypeKind}
use Rattle.schema_json.specs.declared.entity_type.EntityTypeKind.TheVariants.{Standard, Enum}
use Rattle.schema_json.specs.declared.action_type.ActionType.{ActionType}
use Rattle.schema_json.specs.declared.action_type.ActionEntityUID.{ActionEntityUID}
use Rattle.schema_json.specs.declared.action_type.ApplySpec.{ApplySpec}
use Rattle.schema_json.specs.declared.fragment.Fragment.{Fragment}
use Rattle.schema_json.specs.declared.fragment.NamespaceDefinition.{NamespaceDefinition}
use Rattle.schema_json.proofs.Same.{action_same}
use Rattle.schema_json.specs.Orders.{unreserved_cmp, common_cmp, namespace_cmp}
use Rattle.schema_json_shapes.specs.declared.shape_fault.ShapeFault.{ShapeFault}
use Rattle.schema_json_shapes.specs.declared.shape_fault.ShapeFault.TheVariants.{BadName, ReservedCommonType}
use Rattle.schema_json_shapes.specs.Walk.{Demand, unless, is_name, no_keyword, IsUnmet, FirstUnmet, kind_of}
use Rattle.schema_json_shapes.specs.Walk.{role_text}
use Rattle.schema_json_shapes.specs.Said.{IsText, IsId, IsNamed, IsChoice, not_null, IsList, IsType}
use Rattle.schema_json_shapes.specs.Shapes.{IsShapeOrNone, IsCommonType, IsKind, IsEntityType, AreKeys, IsAppliesTo}
use Rattle.schema_json_shapes.specs.Shapes.{IsTextIn}
use Rattle.schema_json_shapes.specs.Shapes.{IsNamespaceKey, IsCommonId}
use Rattle.schema_json_shapes.specs.Shapes.{IsActionId, IsAction, IsNamespace, IsFragment}
use Rattle.schema_json_shapes.proofs.Demands.{one_met}
use Rattle.laws_json.proofs.Current.OneShape.{internal_same, one_raw_name, one_id, optional_once, list_once}
use Rattle.laws_json.proofs.Current.OneShape.{list_or_none_once, there_once, map_once, map_or_none_once}
use Rattle.laws_json.proofs.Current.OneShape.{annotations_once, one_type}

shape_once : (o : Option Data) (t u : «Type» RawName) → IsShapeOrNone o t → IsShapeOrNone o u → t ≡ u
shape_once None t u h k = h ∙ sym k
shape_once (Some d) t u h k = one_type d t u h k

-- ---- common types and entity types

common_once : (d : Data) (c e : CommonType RawName) → IsCommonType d c → IsCommonType d e → c ≡ e
common_once null c e h k = absurd h
common_once (boolean b) c e h k = absurd h
common_once (number n) c e h k = absurd h
common_once (string s) c e h k = absurd h
common_once (array ds) c e h k = absurd h
common_once (object ms) c e h k = λ i. record {
  ty = one_type (object ms) c.ty e.ty h.says k.says i;
  annotations = annotations_once (get_member
      (codes "annotations") ms) c.annotations e.annotations h.annotated k.annotated i;
  loc = (h.placeless ∙ sym k.placeless) i;
}

pub named_once : (d : Data) (n m : RawName) → IsNamed d n → IsNamed d m → n ≡ m
named_once null n m h k = absurd h
named_once (boolean b) n m h k = absurd h
named_once (number x) n m h k = absurd h
named_once (string s) n m h k = one_raw_name s n m h k
named_once (array ds) n m h k = absurd h
named_once (object ms) n m h k = absurd h

choice_once : (d : Data) (a b : Eid) → IsChoice d a → IsChoice d b → a ≡ b
choice_once null a b h k = absurd h
choice_once (boolean x) a b h k = absurd h
choice_once (number n) a b h k = absurd h
choice_once (string s) a b h k = λ i. record { 0 = (h ∙ sym k) i }
choice_once (array ds) a b h k = absurd h
choice_once (object ms) a b h k = absurd h

kind_once : (ms : Members) (a b : EntityTypeKind RawName) → IsKind ms a → IsKind ms b → a ≡ b
kind_once ms (Standard s) (Standard t) h k =
    let parents = list_or_none_once IsNamed named_once (get_member
    (codes "memberOfTypes") ms) s.member_of_types t.member_of_types h.parents k.parents in
    let shape = shape_once (get_member (codes "shape") ms) s.shape.0 t.shape.0 h.shaped k.shaped in
    let tags = optional_once IsType one_type (get_member (codes "tags") ms) s.tags t.tags h.tagged k.tagged in
    ap Standard (λ i. record { member_of_types = parents i; shape = record { 0 = shape i }; tags = tags i })
kind_once ms (Standard s) (Enum bs) h k = absurd (none-some k.0 (sym h.no_enum ∙ k.1))
kind_once ms (Enum as') (Standard t) h k = absurd (none-some h.0 (sym k.no_enum ∙ h.1))
kind_once ms (Enum as') (Enum bs) h k =
    ap Enum (there_once (IsList IsChoice) (list_once IsChoice choice_once) (get_member (codes "enum") ms) as' bs h k)

entity_once : (d : Data) (a b : EntityType RawName) → IsEntityType d a → IsEntityType d b → a ≡ b
entity_once null a b h k = absurd h
entity_once (boolean x) a b h k = absurd h
entity_once (number n) a b h k = absurd h
entity_once (string s) a b h k = absurd h
entity_once (array ds) a b h k = absurd h
entity_once (object ms) a b h k = λ i. record {
  kind = kind_once ms a.kind b.kind h.is_kind k.is_kind i;
  external = (h.marked ∙ sym k.marked) i;
  annotations = annotations_once (get_member
      (codes "annotations") ms) a.annotations b.annotations h.annotated k.annotated i;
  loc = (h.placeless ∙ sym k.placeless) i;
}

-- ---- actions

pub keys_once : (d : Data) (a b : List (List ℕ)) → AreKeys d a → AreKeys d b → a ≡ b
keys_once null a b h k = absurd h
keys_once (boolean x) a b h k = absurd h
keys_once (number n) a b h k = absurd h
keys_once (string s) a b h k = absurd h
keys_once (array ds) a b h k = absurd h
keys_once (object ms) a b h k = h ∙ sym k

pub names_once : (d : Data) (xs ys : List RawName) → IsList IsNamed d xs → IsList IsNamed d ys → xs ≡ ys
names_once = list_once IsNamed named_once

applies_once : (d : Data) (a b : ApplySpec RawName) → IsAppliesTo d a → IsAppliesTo d b → a ≡ b
applies_once null a b h k = absurd h
applies_once (boolean x) a b h k = absurd h
applies_once (number n) a b h k = absurd h
applies_once (string s) a b h k = absurd h
applies_once (array ds) a b h k = absurd h
applies_once (object ms) a b h k = λ i. record {
  resource_types = there_once (IsList IsNamed) names_once (get_member
      (codes "resourceTypes") ms) a.resource_types b.resource_types h.resources k.resources i;
  principal_types = there_once (IsList IsNamed) names_once (get_member
      (codes "principalTypes") ms) a.principal_types b.principal_types h.principals k.principals i;
  context = record {
    0 = shape_once (get_member
        (codes "context") ms) a.context.0 b.context.0 h.in_context k.in_context i;
  };
}

pub text_in_once : (o : Option Data) (a b : List ℕ) → IsTextIn o a → IsTextIn o b → a ≡ b
text_in_once None a b h k = absurd h
text_in_once (Some null) a b h k = absurd h
text_in_once (Some (boolean x)) a b h k = absurd h
text_in_once (Some (number n)) a b h k = absurd h
text_in_once (Some (string s)) a b h k = h ∙ sym k
text_in_once (Some (array ds)) a b h k = absurd h
text_in_once (Some (object ms)) a b h k = absurd h

pub text_once : (s a b : List ℕ) → IsText s a → IsText s b → a ≡ b
text_once s a b h k = h ∙ sym k

pub common_id_once : (s : List ℕ) (a b : CommonTypeId) → IsCommonId s a → IsCommonId s b → a ≡ b
common_id_once s a b h k = λ i. record { id = one_id s a.id b.id h k i }

-- ---- namespaces

pub name_once : (s : List ℕ) (a b : Option Name) → IsNamespaceKey s a → IsNamespaceKey s b → a ≡ b
name_once [] a b h k = h ∙ sym k
name_once (c ∷ s) a b (n, is, (reads, placeless)) (m, is', (reads', placeless')) =
    let same = one_name (c ∷ s) kind.Name (components_of n.name) (components_of m.name) reads reads' in
    is ∙ (ap Some (name_same n m (internal_same n.name m.name same (placeless ∙ sym placeless'))) ∙ sym is')

module _ {G : ghosts.Ghosts RawName} where
  action_id_once : (d : Data) (a b : ActionEntityUID RawName G) → IsActionId d a → IsActionId d b → a ≡ b
  action_id_once null a b h k = absurd h
  action_id_once (boolean x) a b h k = absurd h
  action_id_once (number n) a b h k = absurd h
  action_id_once (string s) a b h k = absurd h
  action_id_once (array ds) a b h k = absurd h
  action_id_once (object ms) a b h k =
      action_same RawName G a b (text_in_once (get_member (codes "id") ms) a.id b.id h.named k.named)
      (optional_once IsNamed named_once (not_null (get_member (codes "type") ms)) a.ty b.ty h.typed k.typed)

  action_once : (d : Data) (a b : ActionType RawName G) → IsAction d a → IsAction d b → a ≡ b
  action_once null a b h k = absurd h
  action_once (boolean x) a b h k = absurd h
  action_once (number n) a b h k = absurd h
  action_once (string s) a b h k = absurd h
  action_once (array ds) a b h k = absurd h
  action_once (object ms) a b h k = λ i. record {
    attributes = optional_once AreKeys keys_once (not_null (get_member
        (codes "attributes") ms)) a.attributes b.attributes h.attributed k.attributed i;
    applies_to = optional_once IsAppliesTo applies_once (not_null (get_member
        (codes "appliesTo") ms)) a.applies_to b.applies_to h.applied k.applied i;
    member_of = optional_once (IsList IsActionId) (list_once IsActionId action_id_once) (not_null (get_member
        (codes "memberOf") ms)) a.member_of b.member_of h.parents k.parents i;
    external = (h.marked ∙ sym k.marked) i;
    annotations = annotations_once (get_member
        (codes "annotations") ms) a.annotations b.annotations h.annotated k.annotated i;
    loc = (h.placeless ∙ sym k.placeless) i;
  }

  namespace_once : (d : Data) (a b : NamespaceDefinition RawName G) → IsNamespace d a → IsNamespace d b → a ≡ b
  namespace_once null a b h k = absurd h
  namespace_once (boolean x) a b h k = absurd h
  namespace_once (number n) a b h k = absurd h
  namespace_once (string s) a b h k = absurd h
  namespace_once (array ds) a b h k = absurd h
  namespace_once (object ms) a b h k = λ i. record {
    common_types = map_or_none_once common_cmp IsCommonId IsCommonType common_id_once common_once (get_member
        (codes "commonTypes") ms) a.common_types b.common_types h.commons k.commons i;
    entity_types = map_or_none_once unreserved_cmp IsId IsEntityType one_id entity_once (get_member
        (codes "entityTypes") ms) a.entity_types b.entity_types h.entities k.entities i;
    actions = map_or_none_once text_cmp IsText IsAction text_once action_once (get_member
        (codes "actions") ms) a.actions b.actions h.actions k.actions i;
    annotations = annotations_once (get_member
        (codes "annotations") ms) a.annotations b.annotations h.annotated k.annotated i;
  }

  pub one_fragment : (d : Data) (f g : Fragment RawName G) → IsFragment d f → IsFragment d g → f ≡ g
  one_fragment d f g h k =
      let same = map_once namespace_cmp IsNamespaceKey IsNamespace name_once namespace_once d f.0 g.0 h k in
      λ i. record { 0 = same i }

-- ---- faults

some_fault : (o : Option ShapeFault) (e f : ShapeFault) → o ≡ Some e → o ≡ Some f → e ≡ f
some_fault o e f h k = let both : Some e ≡ Some f = sym h ∙ k in cc

unmet_once : (d : Demand) (e f : ShapeFault) → IsUnmet d e → IsUnmet d f → e ≡ f
unmet_once (unless o) e f h k = some_fault o e f h k
unmet_once (is_name r s) e f h k =
    h.told
    ∙ (ap (λ c. BadName (chars (role_text r)) (chars s) c) (one_fault s
    (kind_of r) h.cause k.cause h.no_want k.no_want h.is_cause k.is_cause)
    ∙ sym k.told)
unmet_once (no_keyword s) e f (is, a, named, told) (is', b, named', told') =
    told ∙ (ap ReservedCommonType (unreserved_id_same a b (named ∙ sym named')) ∙ sym told')

-- of demands in a row the first that is not met has one fault
pub one_fault_of : (ds : List Demand) (e f : ShapeFault) → FirstUnmet ds e → FirstUnmet ds f → e ≡ f
one_fault_of [] e f h k = absurd h
one_fault_of (d ∷ ds) e f (inl h) (inl k) = unmet_once d e f h k
one_fault_of (d ∷ ds) e f (inl h) (inr k) = absurd (one_met d e k.0 h)
one_fault_of (d ∷ ds) e f (inr h) (inl k) = absurd (one_met d f h.0 k)
one_fault_of (d ∷ ds) e f (inr h) (inr k) = one_fault_of ds e f h.1 k.1
