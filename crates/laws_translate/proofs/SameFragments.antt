-- Fragments that say the same are the same, places aside.
use Rattle.std.proofs.Common.{◌≡◌, ℕ, Bool, List, [], ◌∷◌, map, Option, Some, None, option_map, is_some}
use Rattle.std.proofs.Common.{refl, sym, ap, ◌∙◌, map-id, true≢false}
use Rattle.std.specs.BTreeMap.{is_at}
use Rattle.std.specs.Cmp.{IsTotalOrder}
use Rattle.std.specs.Map.{lookup}
use Rattle.std.specs.declared.cmp.Ordering.{Ordering}
use Rattle.std.proofs.lemmas.Map.Lookups.{CmpEqualImpliesEq}
use Rattle.std.proofs.lemmas.Option.{same_Some}
use Rattle.cedar_data.specs.Span.{Span}
use Rattle.cedar_data.specs.Text.{text_cmp}
use Rattle.cedar_data.proofs.Orders.{text_total, text_exact}
use Rattle.cedar_identifiers.specs.Names.{components_of}
use Rattle.cedar_identifiers.specs.declared.any_id.AnyId.{AnyId}
use Rattle.cedar_identifiers.specs.declared.internal_name.InternalName.{InternalName}
use Rattle.cedar_identifiers.specs.declared.name.Name.{Name}
use Rattle.cedar_identifiers.specs.declared.raw_name.RawName.{RawName}
use Rattle.cedar_identifiers.specs.declared.unreserved_id.UnreservedId.{UnreservedId}
use Rattle.cedar_identifiers.specs.declared.eid.Eid.{Eid}
use Rattle.cedar_identifiers.proofs.Same.{any_id_same, unreserved_id_same, name_same as declared_same, ids_same}
use Rattle.schema_json.specs.declared.types.Type.{«Type» as Shape}
use Rattle.schema_json.specs.declared.types.Type.TheVariants as shape
use Rattle.schema_json.specs.declared.common_type.CommonType.{CommonType}
use Rattle.schema_json.specs.declared.common_type.CommonTypeId.{CommonTypeId}
use Rattle.schema_json.specs.declared.entity_type.EntityType.{EntityType}
use Rattle.schema_json.specs.declared.entity_type.EntityTypeKind.{EntityTypeKind}
use Rattle.schema_json.specs.declared.entity_type.EntityTypeKind.TheVariants.{Standard, Enum}
use Rattle.schema_json.specs.declared.entity_type.StandardEntityType.{StandardEntityType}
use Rattle.schema_json.specs.declared.action_type.ActionEntityUID.{ActionEntityUID}
use Rattle.schema_json.specs.declared.action_type.ActionType.{ActionType}
use Rattle.schema_json.specs.declared.action_type.ApplySpec.{ApplySpec}
use Rattle.schema_json.specs.declared.fragment.Fragment.{Fragment}
use Rattle.schema_json.specs.declared.fragment.NamespaceDefinition.{NamespaceDefinition}
use Rattle.schema_json.specs.AsWritten.{as_written}
use Rattle.laws_written.specs.Written.{WrittenType, no_more, rec, WrittenRef, WrittenMember, types, context_path}
use Rattle.laws_written.specs.Written.{context_record, WrittenDecl, entity, enum, external_entity, action}
use Rattle.laws_written.specs.Written.{external_action, common, WrittenDeclared, WrittenItem}
use Rattle.laws_translate.specs.Bare.{bare_internal, bare_name, bare}
use Rattle.laws_translate.specs.BareFragments.{bare_declared, bare_common, bare_kind, bare_entity, bare_spec, bare_ref}
use Rattle.laws_translate.specs.BareFragments.{bare_action, bare_namespace, bare_fragment}
use Rattle.laws_translate.specs.TypesSay.{TypeSays}
use Rattle.laws_translate.specs.DeclarationsSay.{written_paths, TagsSay, KindSays, EntitySays, CommonIs, CommonSays}
use Rattle.laws_translate.specs.DeclarationsSay.{ContextOr, SpecSays, members_said, written_ref, ParentsSay, AppliesSay}
use Rattle.laws_translate.specs.DeclarationsSay.{ActionSays}
use Rattle.laws_translate.specs.Entries.{FoundSays, EntriesSay}
use Rattle.laws_translate.specs.FragmentsSay.{WrittenNamespace, NamespaceSays, namespace_order, name_components}
use Rattle.laws_translate.specs.FragmentsSay.{written_in, FragmentSays}
use Rattle.laws_translate.proofs.BareTypes.{name_same, notes_same, reference_bare}
use Rattle.laws_translate.proofs.Maps.{told_by_names}
use Rattle.laws_translate.proofs.Orders.{namespace_total, namespace_exact}
use Rattle.laws_translate.proofs.Same.{same_type}

found_alike : {V W Y : Type 0} (Says : V → W → Type 0) (value : V → Y)
    → ((a b : V) (w : W) → Says a w → Says b w → value a ≡ value b)
    → (x y : Option V) (o : Option W) → FoundSays Says x o → FoundSays Says y o
    → option_map value x ≡ option_map value y
found_alike Says value f None None None h k = refl
found_alike Says value f None (Some b) None h k = absurd k
found_alike Says value f (Some a) y None h k = absurd h
found_alike Says value f None y (Some w) h k = absurd h
found_alike Says value f (Some a) None (Some w) h k = absurd k
found_alike Says value f (Some a) (Some b) (Some w) h k = ap Some (f a b w h k)

-- entries that say the same are the same, as they are read
module _ {K N V W Y C : Type 0} (order : N → N → Ordering) (total : IsTotalOrder order)
    (exact : CmpEqualImpliesEq order) (name : K → N) (Says : V → W → Type 0)
    (key : K → C) (value : V → Y) (keys : (k l : K) → name k ≡ name l → key k ≡ key l)
    (values : (a b : V) (w : W) → Says a w → Says b w → value a ≡ value b) where
  entries_same : (es fs : List (K × V)) (written : N → Option W) → EntriesSay order name Says es written
      → EntriesSay order name Says fs written
      → map (λ (e : K × V). let p : C × Y = (key e.0, value e.1) in p) es ≡ map
      (λ (e : K × V). let p : C × Y = (key e.0, value e.1) in p) fs
  entries_same es fs written h k =
      told_by_names V order total exact name Y C key value keys es fs h.rising k.rising
      (λ n. found_alike Says value values (lookup (λ q. is_at (order n) (name q)) es)
      (lookup (λ q. is_at (order n) (name q)) fs) (written n) (h.each n) (k.each n))

common_id_same : (a b : CommonTypeId) → a.id.id.text ≡ b.id.id.text → a ≡ b
common_id_same a b e = let same = unreserved_id_same a.id b.id e in λ i. record { id = same i }

internal_same : (a b : InternalName) → components_of a ≡ components_of b → bare_internal a ≡ bare_internal b
internal_same a b e =
    let all = ids_same (a.first ∷ a.others) (b.first ∷ b.others) e in
    let first : a.first ≡ b.first = cc in
    let others : a.others ≡ b.others = cc in
    λ i. record { first = first i; others = others i; loc = None }

not_some : {X Y : Type 0} (x : X) → Some x ≡ None → Y
not_some x h = absurd (true≢false (ap is_some h))

namespace_name_same : (a b : Option Name) → name_components a ≡ name_components b
    → option_map bare_declared a ≡ option_map bare_declared b
namespace_name_same None None e = refl
namespace_name_same None (Some b) e = not_some (components_of b.name) (sym e)
namespace_name_same (Some a) None e = not_some (components_of a.name) e
namespace_name_same (Some a) (Some b) e =
    ap Some (declared_same (bare_declared a) (bare_declared b)
    (internal_same a.name b.name (same_Some (components_of a.name) (components_of b.name) e)))

-- names in lists
paths_same : (ns ms : List RawName) → written_paths ns ≡ written_paths ms → map bare_name ns ≡ map bare_name ms
paths_same [] [] e = refl
paths_same [] (m ∷ ms) e = cc
paths_same (n ∷ ns) [] e = cc
paths_same (n ∷ ns) (m ∷ ms) e =
    let here : components_of n.name ≡ components_of m.name = cc in
    let others : written_paths ns ≡ written_paths ms = cc in
    let first = name_same n m here in
    let rest = paths_same ns ms others in
    λ i. first i ∷ rest i

tags_same : (a b : Option (Shape RawName)) (t : Option WrittenType) → TagsSay a t → TagsSay b t
    → option_map bare a ≡ option_map bare b
tags_same None None None h k = refl
tags_same None (Some s) None h k = absurd k
tags_same (Some s) b None h k = absurd h
tags_same None b (Some t) h k = absurd h
tags_same (Some s) None (Some t) h k = absurd k
tags_same (Some s) (Some r) (Some t) h k = ap Some (same_type t s r h k)

choices_same : (xs ys : List Eid) → map (λ c. c.0) xs ≡ map (λ c. c.0) ys → xs ≡ ys
choices_same [] [] e = refl
choices_same [] (y ∷ ys) e = cc
choices_same (x ∷ xs) [] e = cc
choices_same (x ∷ xs) (y ∷ ys) e =
    let here : x.0 ≡ y.0 = cc in
    let others : map (λ (c : Eid). c.0) xs ≡ map (λ (c : Eid). c.0) ys = cc in
    let rest = choices_same xs ys others in
    λ i. record { 0 = here i } ∷ rest i

standard_same : (a b : StandardEntityType RawName)
    → map bare_name a.member_of_types ≡ map bare_name b.member_of_types → bare a.shape.0 ≡ bare b.shape.0
    → option_map bare a.tags ≡ option_map bare b.tags
    → bare_kind (Standard a) ≡ bare_kind (Standard b)
standard_same a b p s t = λ i. Standard (record { member_of_types = p i; shape = record { 0 = s i }; tags = t i })

kind_same : (x y : Bool) (a b : EntityTypeKind RawName) (d : WrittenDecl) → KindSays x a d → KindSays y b d
    → (x ≡ y) × (bare_kind a ≡ bare_kind b)
kind_same x y (Standard a) (Standard b) (entity names ps xs tags) h k = (
  h.0 ∙ sym k.0,
  standard_same a b (paths_same a.member_of_types b.member_of_types (h.1 ∙ sym k.1))
      (same_type (rec xs) a.shape.0 b.shape.0 h.2 k.2) (tags_same a.tags b.tags tags h.3 k.3),
)
kind_same x y (Standard a) (Enum b) (entity names ps xs tags) h k = absurd k
kind_same x y (Enum a) b (entity names ps xs tags) h k = absurd h
kind_same x y (Standard a) (Standard b) (external_entity names ps) h k = (
  h.0 ∙ sym k.0,
  standard_same a b (paths_same a.member_of_types b.member_of_types (h.1 ∙ sym k.1))
      (same_type (rec no_more) a.shape.0 b.shape.0 h.2 k.2) (ap (option_map bare) (h.3 ∙ sym k.3)),
)
kind_same x y (Standard a) (Enum b) (external_entity names ps) h k = absurd k
kind_same x y (Enum a) b (external_entity names ps) h k = absurd h
kind_same x y (Enum a) (Enum b) (enum names cs) h k = (h.0 ∙ sym k.0, ap Enum (choices_same a b (h.1 ∙ sym k.1)))
kind_same x y (Enum a) (Standard b) (enum names cs) h k = absurd k
kind_same x y (Standard a) b (enum names cs) h k = absurd h
kind_same x y (Standard a) b (action names rs ms) h k = absurd h
kind_same x y (Enum a) b (action names rs ms) h k = absurd h
kind_same x y (Standard a) b (external_action names rs) h k = absurd h
kind_same x y (Enum a) b (external_action names rs) h k = absurd h
kind_same x y (Standard a) b (common n t) h k = absurd h
kind_same x y (Enum a) b (common n t) h k = absurd h

entity_same : (a b : EntityType RawName) (w : WrittenDeclared) → EntitySays a w → EntitySays b w
    → bare_entity a ≡ bare_entity b
entity_same a b w h k =
    let kinds = kind_same a.external b.external a.kind b.kind w.decl h.1 k.1 in
    let notes = notes_same a.annotations b.annotations w.notes h.0 k.0 in
    λ i. record { kind = kinds.1 i; external = kinds.0 i; annotations = notes i; loc = None }

common_is_same : (s r : Shape RawName) (d : WrittenDecl) → CommonIs s d → CommonIs r d → bare s ≡ bare r
common_is_same s r (common n t) h k = same_type t s r h k
common_is_same s r (entity names ps xs tags) h k = absurd h
common_is_same s r (enum names cs) h k = absurd h
common_is_same s r (external_entity names ps) h k = absurd h
common_is_same s r (action names rs ms) h k = absurd h
common_is_same s r (external_action names rs) h k = absurd h

common_same : (a b : CommonType RawName) (w : WrittenDeclared) → CommonSays a w → CommonSays b w
    → bare_common a ≡ bare_common b
common_same a b w h k =
    let ty = common_is_same a.ty b.ty w.decl h.1 k.1 in
    let notes = notes_same a.annotations b.annotations w.notes h.0 k.0 in
    λ i. record { ty = ty i; annotations = notes i; loc = None }

module _ (s r : Shape RawName) where
  context_same : (A B : Type 0) → (A → B → bare s ≡ bare r) → (ms : List WrittenMember) → ContextOr A s ms
      → ContextOr B r ms → bare s ≡ bare r
  context_same A B f [] h k = f h k
  context_same A B f (types role ps ∷ ms) h k = context_same A B f ms h k
  context_same A B f (context_path p ∷ ms) h k =
      context_same
      ((name : RawName) × (loc : Option Span) × (s ≡ shape.CommonTypeRef name loc)
      × (components_of name.name ≡ p))
      ((name : RawName) × (loc : Option Span) × (r ≡ shape.CommonTypeRef name loc) × (components_of name.name ≡ p))
      (λ (n, loc, e, c) (m, other, g, d). ap bare e
      ∙ (reference_bare n loc
      ∙ (ap (λ (x : RawName). shape.CommonTypeRef x None) (name_same n m (c ∙ sym d))
      ∙ (sym (reference_bare m other) ∙ ap bare (sym g)))))
      ms h k
  context_same A B f (context_record xs ∷ ms) h k =
      context_same (TypeSays s (rec xs)) (TypeSays r (rec xs)) (λ p q. same_type (rec xs) s r p q) ms h k

spec_same : (a b : ApplySpec RawName) (ms : List WrittenMember) → SpecSays a ms → SpecSays b ms
    → bare_spec a ≡ bare_spec b
spec_same a b ms h k =
    let principals = paths_same a.principal_types b.principal_types (h.0 ∙ sym k.0) in
    let resources = paths_same a.resource_types b.resource_types (h.1 ∙ sym k.1) in
    let context = context_same a.context.0 b.context.0 (TypeSays a.context.0 (rec no_more))
    (TypeSays b.context.0 (rec no_more)) (λ p q. same_type (rec no_more) a.context.0 b.context.0 p q) ms h.2 k.2 in
    λ i. record { resource_types = resources i; principal_types = principals i; context = record { 0 = context i } }

abbrev Reference : Type 0
Reference = ActionEntityUID RawName as_written

role_same : (a b : Option RawName) → option_map (λ (n : RawName). components_of n.name) a ≡ option_map
    (λ (n : RawName). components_of n.name) b → option_map bare_name a ≡ option_map bare_name b
role_same None None e = refl
role_same None (Some b) e = not_some (components_of b.name) (sym e)
role_same (Some a) None e = not_some (components_of a.name) e
role_same (Some a) (Some b) e = ap Some (name_same a b (same_Some (components_of a.name) (components_of b.name) e))

ref_same : (a b : Reference) → written_ref a ≡ written_ref b → bare_ref a ≡ bare_ref b
ref_same a b e =
    let ty = role_same a.ty b.ty (ap (λ (r : WrittenRef). r.ty) e) in
    let id = ap (λ (r : WrittenRef). r.id) e in
    λ i. record { id = id i; ty = ty i; typed = refl }

refs_same : (xs ys : List Reference) → map written_ref xs ≡ map written_ref ys → map bare_ref xs ≡ map bare_ref ys
refs_same [] [] e = refl
refs_same [] (y ∷ ys) e = cc
refs_same (x ∷ xs) [] e = cc
refs_same (x ∷ xs) (y ∷ ys) e =
    let here : written_ref x ≡ written_ref y = cc in
    let others : map written_ref xs ≡ map written_ref ys = cc in
    let first = ref_same x y here in
    let rest = refs_same xs ys others in
    λ i. first i ∷ rest i

parents_same : (a b : Option (List Reference)) (rs : List WrittenRef) → ParentsSay a rs → ParentsSay b rs
    → option_map (map bare_ref) a ≡ option_map (map bare_ref) b
parents_same None None [] h k = refl
parents_same None (Some ys) [] h k = absurd k
parents_same (Some xs) b [] h k = absurd h
parents_same None b (r ∷ rs) h k = absurd h
parents_same (Some xs) None (r ∷ rs) h k = absurd k
parents_same (Some xs) (Some ys) (r ∷ rs) h k = ap Some (refs_same xs ys (h ∙ sym k))

record AppliesAlike (x y : Bool) (a b : Option (ApplySpec RawName)) (p q : Option (List Reference)) : Type 0 where
  external : x ≡ y
  applies : option_map bare_spec a ≡ option_map bare_spec b
  parents : option_map (map bare_ref) p ≡ option_map (map bare_ref) q

applies_same : (x y : Bool) (a b : Option (ApplySpec RawName)) (p q : Option (List Reference)) (d : WrittenDecl)
    → AppliesSay x a p d → AppliesSay y b q d → AppliesAlike x y a b p q
applies_same x y (Some a) (Some b) p q (action names rs ms) h k =
    record {
      external = h.0 ∙ sym k.0;
      applies = ap Some (spec_same a b (members_said ms) h.2 k.2);
      parents =
          parents_same p q rs h.1 k.1;
    }
applies_same x y (Some a) None p q (action names rs ms) h k = absurd k
applies_same x y None b p q (action names rs ms) h k = absurd h
applies_same x y None None p q (external_action names rs) h k =
    record { external = h.0 ∙ sym k.0; applies = refl; parents = parents_same p q rs h.1 k.1 }
applies_same x y None (Some b) p q (external_action names rs) h k = absurd k
applies_same x y (Some a) b p q (external_action names rs) h k = absurd h
applies_same x y (Some a) b p q (entity names ps xs tags) h k = absurd h
applies_same x y None b p q (entity names ps xs tags) h k = absurd h
applies_same x y (Some a) b p q (enum names cs) h k = absurd h
applies_same x y None b p q (enum names cs) h k = absurd h
applies_same x y (Some a) b p q (external_entity names ps) h k = absurd h
applies_same x y None b p q (external_entity names ps) h k = absurd h
applies_same x y (Some a) b p q (common n t) h k = absurd h
applies_same x y None b p q (common n t) h k = absurd h

action_same : (a b : ActionType RawName as_written) (w : WrittenDeclared) → ActionSays a w → ActionSays b w
    → bare_action a ≡ bare_action b
action_same a b w h k =
    let alike = applies_same a.external b.external a.applies_to b.applies_to a.member_of b.member_of w.decl h.2 k.2 in
    let notes = notes_same a.annotations b.annotations w.notes h.0 k.0 in
    let attributes = h.1 ∙ sym k.1 in
    λ i. record {
      attributes = attributes i;
      applies_to = alike.applies i;
      member_of = alike.parents i;
      external =
          alike.external i;
      annotations = notes i;
      loc = None;
    }

namespace_same : (a b : NamespaceDefinition RawName as_written) (w : WrittenNamespace) → NamespaceSays a w
    → NamespaceSays b w → bare_namespace a ≡ bare_namespace b
namespace_same a b w h k =
    let commons = entries_same text_cmp text_total text_exact (λ (id : CommonTypeId). id.id.id.text) CommonSays
    (λ id. id) bare_common common_id_same common_same a.common_types b.common_types _ h.commons k.commons in
    let entities = entries_same text_cmp text_total text_exact (λ (id : UnreservedId). id.id.text) EntitySays
    (λ id. id) bare_entity unreserved_id_same entity_same a.entity_types b.entity_types _ h.entities k.entities in
    let actions = entries_same text_cmp text_total text_exact (λ (id : List ℕ). id) ActionSays (λ id. id) bare_action
    (λ x y e. e) action_same a.actions b.actions _ h.actions k.actions in
    let notes = entries_same text_cmp text_total text_exact (λ (id : AnyId). id.text) (λ v x. v ≡ x) (λ id. id)
    (λ v. v) any_id_same (λ v x y e f. e ∙ sym f) a.annotations.0 b.annotations.0 _ h.annotations k.annotations in
    let whole = sym (map-id a.annotations.0) ∙ (notes ∙ map-id b.annotations.0) in
    λ i. record {
      common_types = commons i;
      entity_types = entities i;
      actions = actions i;
      annotations =
          record { 0 = whole i };
    }

pub fragment_same : (f g : Fragment RawName as_written) (w : List WrittenItem) → FragmentSays f w → FragmentSays g w
    → bare_fragment f ≡ bare_fragment g
fragment_same f g w h k =
    let entries = entries_same namespace_order namespace_total namespace_exact name_components NamespaceSays
    (option_map bare_declared) bare_namespace namespace_name_same namespace_same f.0 g.0 (written_in w) h k in
    λ i. record { 0 = entries i }
