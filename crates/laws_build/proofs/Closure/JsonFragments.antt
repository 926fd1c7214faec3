-- The fragment that a JSON value says is formed.
use Rattle.std.proofs.Common.{◌≡◌, ℕ, false, List, [], All, Option, Some, None, refl, sym, subst, true≢false}
use Rattle.std.specs.Prelude.{codes}
use Rattle.serde_json.specs.Data.{Data, null, boolean, number, string, array, object, no_items, item, Members}
use Rattle.serde_json.specs.Find.{get_member}
use Rattle.cedar_data.specs.Text.{text_cmp}
use Rattle.cedar_identifiers.specs.declared.eid.Eid.{Eid}
use Rattle.cedar_identifiers.specs.declared.name_text.NameText as named
use Rattle.cedar_identifiers.specs.declared.raw_name.RawName.{RawName}
use Rattle.schema_json.specs.declared.common_type.CommonType.{CommonType}
use Rattle.schema_json.specs.declared.entity_type.EntityType.{EntityType}
use Rattle.schema_json.specs.declared.entity_type.EntityTypeKind.{EntityTypeKind}
use Rattle.schema_json.specs.declared.entity_type.EntityTypeKind.TheVariants.{Standard, Enum}
use Rattle.schema_json.specs.declared.action_type.ActionType.{ActionType}
use Rattle.schema_json.specs.declared.action_type.ApplySpec.{ApplySpec}
use Rattle.schema_json.specs.declared.fragment.Fragment.{Fragment}
use Rattle.schema_json.specs.declared.fragment.NamespaceDefinition.{NamespaceDefinition}
use Rattle.schema_json.specs.Orders.{unreserved_cmp, common_cmp, namespace_cmp}
use Rattle.laws_written.specs.PrintedDecls.{IsSome}
use Rattle.schema_json_shapes.specs.declared.words.TypeSite.TheVariants.{Common}
use Rattle.schema_json_shapes.specs.Said.{IsId, IsText, IsOptional, not_null, IsList, IsChoice, next_item}
use Rattle.schema_json_shapes.specs.Shapes.{IsCommonType, IsKind, IsEntityType, IsAppliesTo, IsAction, IsNamespaceKey}
use Rattle.schema_json_shapes.specs.Shapes.{IsCommonId, IsNamespace}
use Rattle.schema_json_shapes.specs.Shapes.{JsonShape}
use Rattle.schema_json_shapes.specs.Walk.{AllMet, is_empty_list, empty_enum, member_role, key_demands, object_demands}
use Rattle.schema_json_shapes.specs.Walk.{demands, member_demands}
use Rattle.schema_json_shapes.specs.Walk as role
use Rattle.schema_json_shapes.proofs.Demands.{first_met, second_met}
use Rattle.schema_json_shapes.proofs.EntityKinds.{not_empty}
use Rattle.laws_build.specs.Closure.Formed.{ContextRises, IsFormed}
use Rattle.laws_build.specs.Closure.WellFormed.{Rises, IsKindFormed}
use Rattle.laws_build.proofs.Closure.JsonMaps.{member_met, map_has, map_or_none_has}
use Rattle.laws_build.proofs.Closure.JsonTypes.{type_rises, shape_rises, tags_rise}

common_rises : (d : Data) (c : CommonType RawName) → IsCommonType d c → Rises RawName c.ty
common_rises null c h = absurd h
common_rises (boolean b) c h = absurd h
common_rises (number x) c h = absurd h
common_rises (string s) c h = absurd h
common_rises (array ds) c h = absurd h
common_rises (object ms) c h = type_rises (object ms) c.ty h.says

-- ---- entity types

item_seen : (P : Data → Eid → Type 0) (d : Data) (ids : List Eid) → IsList P d ids → is_empty_list d ≡ false
    → IsSome ids
item_seen P null ids h e = absurd h
item_seen P (boolean b) ids h e = absurd h
item_seen P (number x) ids h e = absurd h
item_seen P (string s) ids h e = absurd h
item_seen P (array no_items) ids h e = absurd (true≢false e)
item_seen P (array (item d ds)) ids (next_item _ _ x xs p h) e = tt
item_seen P (object ms) ids h e = absurd h

kind_formed : (ms : Members) (kind : EntityTypeKind RawName) → empty_enum (get_member (codes "enum") ms) ≡ None
    → IsKind ms kind → IsKindFormed kind
kind_formed ms (Standard s) e h = (
  shape_rises (get_member (codes "shape") ms) s.shape.0 h.shaped,
  tags_rise (get_member (codes "tags") ms) s.tags h.tagged,
)
kind_formed ms (Enum ids) e (d, there, are) =
    item_seen IsChoice d ids are (not_empty (get_member (codes "enum") ms) d (sym there) e)

entity_formed : (k : List ℕ) (d : Data) (t : EntityType RawName) → AllMet (demands role.entity_type k d)
    → IsEntityType d t
    → IsKindFormed t.kind
entity_formed k null t met h = absurd h
entity_formed k (boolean b) t met h = absurd h
entity_formed k (number x) t met h = absurd h
entity_formed k (string s) t met h = absurd h
entity_formed k (array ds) t met h = absurd h
entity_formed k (object ms) t met h =
    let own = first_met (object_demands role.entity_type k ms)
    (member_demands (key_demands role.entity_type) (member_role role.entity_type ms) ms) met in
    kind_formed ms t.kind own.1.1.1.1.0 h.is_kind

-- ---- actions

applies_rises : (d : Data) (a : ApplySpec RawName) → IsAppliesTo d a → Rises RawName a.context.0
applies_rises null a h = absurd h
applies_rises (boolean b) a h = absurd h
applies_rises (number x) a h = absurd h
applies_rises (string s) a h = absurd h
applies_rises (array ds) a h = absurd h
applies_rises (object ms) a h = shape_rises (get_member (codes "context") ms) a.context.0 h.in_context

context_rises : (o : Option Data) (applies : Option (ApplySpec RawName)) → IsOptional IsAppliesTo o applies
    → ContextRises applies
context_rises None applies e = subst ContextRises (sym e) tt
context_rises (Some d) applies (a, says, e) = subst ContextRises (sym e) (applies_rises d a says)

module _ {G : named.Ghosts RawName} where
  action_formed : (d : Data) (a : ActionType RawName G) → IsAction d a → ContextRises a.applies_to
  action_formed null a h = absurd h
  action_formed (boolean b) a h = absurd h
  action_formed (number x) a h = absurd h
  action_formed (string s) a h = absurd h
  action_formed (array ds) a h = absurd h
  action_formed (object ms) a h = context_rises (not_null (get_member (codes "appliesTo") ms)) a.applies_to h.applied

  -- ---- namespaces and fragments

  record IsFormedNamespace (n : NamespaceDefinition RawName G) : Type 0 where
    pub commons : All (λ c. Rises RawName c.1.ty) n.common_types
    pub entities : All (λ d. IsKindFormed d.1.kind) n.entity_types
    pub actions : All (λ a. ContextRises a.1.applies_to) n.actions

  namespace_formed : (k : List ℕ) (d : Data) (n : NamespaceDefinition RawName G) → AllMet (demands role.namespace k d)
      → IsNamespace d n → IsFormedNamespace n
  namespace_formed k null n met h = absurd h
  namespace_formed k (boolean b) n met h = absurd h
  namespace_formed k (number x) n met h = absurd h
  namespace_formed k (string s) n met h = absurd h
  namespace_formed k (array ds) n met h = absurd h
  namespace_formed k (object ms) n met h =
      let inside = second_met (object_demands role.namespace k ms)
      (member_demands (key_demands role.namespace) (member_role role.namespace ms) ms) met in
      let field = λ (name : List ℕ). member_met (key_demands role.namespace) (member_role role.namespace ms)
      name ms inside in
      record {
        commons = map_or_none_has common_cmp IsCommonId IsCommonType role.common_types (role.typed Common)
            (λ ms k. refl)
            (λ c. Rises RawName c.ty) (λ k d c met says. common_rises d c says) (codes "commonTypes")
            (get_member (codes "commonTypes") ms) n.common_types h.commons (field (codes "commonTypes"));
        entities = map_or_none_has unreserved_cmp IsId IsEntityType role.entity_types role.entity_type (λ ms k. refl)
            (λ t. IsKindFormed t.kind) entity_formed (codes "entityTypes")
            (get_member (codes "entityTypes") ms) n.entity_types h.entities (field (codes "entityTypes"));
        actions = map_or_none_has text_cmp IsText IsAction role.actions role.action (λ ms k. refl)
            (λ a. ContextRises a.applies_to) (λ k d a met says. action_formed d a says) (codes "actions")
            (get_member (codes "actions") ms) n.actions h.actions (field (codes "actions"));
      }

  pub json_formed : (d : Data) (f : Fragment RawName G) → JsonShape d f → IsFormed f
  json_formed d f (met, says) =
      let each = λ (P : NamespaceDefinition RawName G → Type 0)
      (g : (n : NamespaceDefinition RawName G) → IsFormedNamespace n → P n).
      map_has namespace_cmp IsNamespaceKey IsNamespace role.fragment role.namespace (λ ms k. refl) P
      (λ k d n met says. g n (namespace_formed k d n met says)) [] d f.0 says met in
      record {
        commons = each (λ n. All (λ c. Rises RawName c.1.ty) n.common_types) (λ n h. h.commons);
        entities = each (λ n. All (λ d. IsKindFormed d.1.kind) n.entity_types) (λ n h. h.entities);
        actions = each (λ n. All (λ a. ContextRises a.1.applies_to) n.actions) (λ n h. h.actions);
      }
