-- No value that is written has a number, and the keys of each of its objects rise.
use Rattle.std.proofs.Common.{◌≡◌, ℕ, Bool, true, false, not, List, [], ◌∷◌, map, Option, Some, None, refl, ap, ◌∙◌}
use Rattle.std.proofs.lemmas.Bool.{or_from}
use Rattle.std.specs.Prelude.{codes, if◌then◌else◌}
use Rattle.std.specs.Str.{encode_utf8_all}
use Rattle.std.specs.List.{AllByRecursion}
use Rattle.serde_json.specs.Data.{Data, boolean, string, object, Members, no_members, put}
use Rattle.serde_json.specs.View.{items_of}
use Rattle.cedar_identifiers.specs.declared.any_id.AnyId.{AnyId}
use Rattle.cedar_identifiers.specs.declared.name.Name.{Name}
use Rattle.cedar_identifiers.specs.declared.name_text.NameText as named
use Rattle.cedar_identifiers.specs.declared.unreserved_id.UnreservedId.{UnreservedId}
use Rattle.schema_json.specs.Shapes.{attributes_of, is_open, is_empty_type}
use Rattle.schema_json.specs.declared.types.Type.{«Type»}
use Rattle.schema_json.specs.declared.types.TypeVariant.{TypeVariant}
use Rattle.schema_json.specs.declared.types.RecordType.{RecordType}
use Rattle.schema_json.specs.declared.types.TypeOfAttribute.{TypeOfAttribute, out-TypeOfAttribute}
use Rattle.schema_json.proofs.Layers.{Layers, record_made, each_type}
use Rattle.schema_json.specs.declared.common_type.CommonType.{CommonType}
use Rattle.schema_json.specs.declared.common_type.CommonTypeId.{CommonTypeId}
use Rattle.schema_json.specs.declared.entity_type.EntityType.{EntityType}
use Rattle.schema_json.specs.declared.entity_type.EntityTypeKind.{EntityTypeKind}
use Rattle.schema_json.specs.declared.entity_type.EntityTypeKind.TheVariants.{Standard, Enum}
use Rattle.schema_json.specs.declared.action_type.ActionType.{ActionType}
use Rattle.schema_json.specs.declared.action_type.ActionEntityUID.{ActionEntityUID}
use Rattle.schema_json.specs.declared.action_type.ApplySpec.{ApplySpec}
use Rattle.schema_json.specs.declared.fragment.Fragment.{Fragment}
use Rattle.schema_json.specs.declared.fragment.NamespaceDefinition.{NamespaceDefinition}
use Rattle.schema_json_values.specs.TypeValues.{put_all, object_of, with_flag, annotation_entry, with_annotations}
use Rattle.schema_json_values.specs.TypeValues.{with_word, with_attributes, name_bytes, type_layer}
use Rattle.schema_json_values.specs.TypeValues.{variant_layer, record_layer, attribute_layer, type_members}
use Rattle.schema_json_values.specs.TypeValues.{variant_members, record_members, attribute_members, attribute_entry}
use Rattle.schema_json_values.specs.FragmentValues as values
use Rattle.schema_json_values.proofs.Layers.{type_variant, type_common, variant_set, variant_entity}
use Rattle.schema_json_values.proofs.Layers.{variant_either, variant_extension, variant_string, variant_long}
use Rattle.schema_json_values.proofs.Layers.{variant_boolean, record_out, attribute_out}
use Rattle.laws_json.proofs.Current.Tidied.{untidy, items_untidy, members_untidy, put_tidy}

-- ---- members and lists

abbrev pub Tidy : Members → Type 0
Tidy ms = members_untidy ms ≡ false

-- the members that are made of entries, each tidy
all_tidy : {X : Type 0} (f : X → List ℕ × Data) → ((x : X) → untidy (f x).1 ≡ false) → (xs : List X) (ms : Members)
    → Tidy ms → Tidy (put_all (map f xs) ms)
all_tidy f each [] ms w = w
all_tidy f each (x ∷ xs) ms w = all_tidy f each xs (put (f x).0 (f x).1 ms) (put_tidy (f x).0 (f x).1 ms (each x) w)

items_tidy : {X : Type 0} (f : X → Data) → ((x : X) → untidy (f x) ≡ false) → (xs : List X)
    → items_untidy (items_of (map f xs)) ≡ false
items_tidy f each [] = refl
items_tidy f each (x ∷ xs) = or_from (untidy (f x)) (items_untidy (items_of (map f xs))) (each x)
    (items_tidy f each xs)

flag_tidy : (b : Bool) (k : List ℕ) (flag : Bool) (ms : Members) → Tidy ms → Tidy (with_flag b k flag ms)
flag_tidy true k flag ms w = put_tidy k (boolean flag) ms refl w
flag_tidy false k flag ms w = w

note_tidy : (p : AnyId × Option (List ℕ)) → untidy (annotation_entry p).1 ≡ false
note_tidy (key, None) = refl
note_tidy (key, Some t) = refl

pub notes_tidy : (notes : List (AnyId × Option (List ℕ))) (ms : Members) → Tidy ms → Tidy (with_annotations notes ms)
notes_tidy [] ms w = w
notes_tidy (n ∷ ns) ms w =
    put_tidy (codes "annotations") (object_of (map annotation_entry (n ∷ ns))) ms
    (all_tidy annotation_entry note_tidy (n ∷ ns) no_members refl) w

-- ---- types

module _ (N : Type 0) (names : N → List (List ℕ)) where
  abbrev P : «Type» N → Type 0
  P t = Tidy (type_members names t)

  abbrev P1 : TypeVariant N → Type 0
  P1 v = Tidy (variant_members names v)

  abbrev P2 : RecordType N → Type 0
  P2 r = Tidy (record_members names r)

  abbrev P3 : TypeOfAttribute N → Type 0
  P3 a = Tidy (attribute_members names a)

  entries_tidy : (es : List (List ℕ × TypeOfAttribute N)) → AllByRecursion (λ e. P3 e.1) es → (ms : Members) → Tidy ms
      → Tidy (put_all (map (attribute_entry names) es) ms)
  entries_tidy [] h ms w = w
  entries_tidy (e ∷ es) h ms w =
      let d = object (attribute_members names e.1) in
      entries_tidy es h.1 (put (encode_utf8_all e.0) d ms) (put_tidy (encode_utf8_all e.0) d ms h.0 w)

  attributes_tidy : (es : List (List ℕ × Data)) (is_open : Bool) → Tidy (put_all es no_members) → Tidy
      (with_attributes es is_open)
  attributes_tidy es is_open w =
      flag_tidy is_open (codes "additionalAttributes") true (put (codes "attributes") (object_of es) (with_word
      (codes "Record")))
      (put_tidy (codes "attributes") (object_of es) (with_word (codes "Record")) w refl)

  layers : Layers N P P1 P2 P3
  layers = record {
    variant = λ v loc h. ap members_untidy (type_variant N names v loc) ∙ h;
    reference = λ n loc. ap members_untidy (type_common N names n loc);
    string = ap members_untidy (variant_string N names);
    long = ap members_untidy (variant_long N names);
    boolean = ap members_untidy (variant_boolean N names);
    set = λ t h. ap members_untidy (variant_set N names t)
        ∙ put_tidy (codes "element") (object (type_members names t)) (with_word (codes "Set")) h refl;
    fields = λ r h. ap members_untidy
        (record_made N (type_layer names) (variant_layer names) (record_layer names) (attribute_layer names) r) ∙ h;
    entity = λ n. ap members_untidy (variant_entity N names n)
        ∙ put_tidy (codes "name") (string (name_bytes names n)) (with_word (codes "Entity")) refl refl;
    either = λ n. ap members_untidy (variant_either N names n)
        ∙ put_tidy (codes "name") (string (name_bytes names n)) (with_word (codes "EntityOrCommon")) refl refl;
    extension = λ x. ap members_untidy (variant_extension N names x)
        ∙ put_tidy (codes "name") (string x.id.text) (with_word (codes "Extension")) refl refl;
    entries = λ r h. ap members_untidy (record_out N names r)
        ∙ attributes_tidy (map (attribute_entry names) (attributes_of r)) (is_open r)
        (entries_tidy (attributes_of r) h no_members refl);
    attribute = λ a h.
        let members = type_members names (out-TypeOfAttribute N a).ty in
        let notes = (out-TypeOfAttribute N a).annotations.0 in
        ap members_untidy (attribute_out N names a)
        ∙ flag_tidy (not (out-TypeOfAttribute N a).required) (codes "required") false (with_annotations notes members)
        (notes_tidy notes members h);
  }

  pub type_tidy : (t : «Type» N) → P t
  type_tidy = each_type N P P1 P2 P3 layers

  -- ---- common types and entity types

  common_tidy : (p : CommonTypeId × CommonType N) → untidy (values.common_entry names p).1 ≡ false
  common_tidy p = notes_tidy p.1.annotations.0 (type_members names p.1.ty) (type_tidy p.1.ty)

  list_tidy : (k : List ℕ) {X : Type 0} (f : X → Data) → ((x : X) → untidy (f x) ≡ false) → (xs : List X)
      (ms : Members)
      → Tidy ms → Tidy (values.with_list k (map f xs) ms)
  list_tidy k f each [] ms w = w
  list_tidy k f each (x ∷ xs) ms w = put_tidy k (values.list_of (map f (x ∷ xs))) ms (items_tidy f each (x ∷ xs)) w

  shape_at : (b : Bool) (k : List ℕ) (t : «Type» N) (ms : Members) → Tidy ms
      → Tidy (if b then ms else put k (object (type_members names t)) ms)
  shape_at true k t ms w = w
  shape_at false k t ms w = put_tidy k (object (type_members names t)) ms (type_tidy t) w

  shape_tidy : (k : List ℕ) (t : «Type» N) (ms : Members) → Tidy ms → Tidy (values.with_shape names k t ms)
  shape_tidy k t ms w = shape_at (is_empty_type t) k t ms w

  tags_tidy : (o : Option («Type» N)) (ms : Members) → Tidy ms → Tidy (values.with_tags names o ms)
  tags_tidy None ms w = w
  tags_tidy (Some t) ms w = put_tidy (codes "tags") (object (type_members names t)) ms (type_tidy t) w

  kind_tidy : (k : EntityTypeKind N) → Tidy (values.kind_members names k)
  kind_tidy (Standard s) =
      tags_tidy s.tags _ (shape_tidy (codes "shape") s.shape.0 _
      (list_tidy (codes "memberOfTypes") (values.name_value names) (λ n. refl) s.member_of_types no_members refl))
  kind_tidy (Enum choices) =
      put_tidy (codes "enum") (values.list_of (map values.choice_value choices)) no_members
      (items_tidy values.choice_value (λ c. refl) choices) refl

  entity_tidy : (p : UnreservedId × EntityType N) → untidy (values.entity_entry names p).1 ≡ false
  entity_tidy p =
      notes_tidy p.1.annotations.0 _ (flag_tidy p.1.external (codes "external") true
      (values.kind_members names p.1.kind) (kind_tidy p.1.kind))

  -- ---- actions

  names_tidy : (ns : List N) → untidy (values.names_value names ns) ≡ false
  names_tidy ns = items_tidy (values.name_value names) (λ n. refl) ns

  applies_tidy : (a : ApplySpec N) → untidy (values.applies_to_value names a) ≡ false
  applies_tidy a =
      let resources = put (codes "resourceTypes") (values.names_value names a.resource_types) no_members in
      shape_tidy (codes "context") a.context.0
      (put (codes "principalTypes") (values.names_value names a.principal_types) resources)
      (put_tidy (codes "principalTypes") (values.names_value names a.principal_types) resources
      (names_tidy a.principal_types)
      (put_tidy (codes "resourceTypes") (values.names_value names a.resource_types) no_members
      (names_tidy a.resource_types) refl))

  spec_tidy : (o : Option (ApplySpec N)) (ms : Members) → Tidy ms → Tidy (values.with_applies_to names o ms)
  spec_tidy None ms w = w
  spec_tidy (Some a) ms w = put_tidy (codes "appliesTo") (values.applies_to_value names a) ms (applies_tidy a) w

  written_tidy : (o : Option (List (List ℕ))) (ms : Members) → Tidy ms → Tidy (values.with_attribute_names o ms)
  written_tidy None ms w = w
  written_tidy (Some ns) ms w =
      put_tidy (codes "attributes") (object_of (map values.attribute_name_entry ns)) ms
      (all_tidy values.attribute_name_entry (λ n. refl) ns no_members refl) w

  typed_tidy : (o : Option N) (ms : Members) → Tidy ms → Tidy (values.with_type names o ms)
  typed_tidy None ms w = w
  typed_tidy (Some n) ms w = put_tidy (codes "type") (values.name_value names n) ms refl w

  object_tidy : (k : List ℕ) {X : Type 0} (f : X → List ℕ × Data) → ((x : X) → untidy (f x).1 ≡ false) →
      (xs : List X)
      (ms : Members) → Tidy ms → Tidy (values.with_object k (map f xs) ms)
  object_tidy k f each [] ms w = w
  object_tidy k f each (x ∷ xs) ms w =
      put_tidy k (object_of (map f (x ∷ xs))) ms (all_tidy f each (x ∷ xs) no_members refl) w

  module _ {G : named.Ghosts N} where
    id_tidy : (u : ActionEntityUID N G) → untidy (values.action_id_value names u) ≡ false
    id_tidy u = typed_tidy u.ty _ (put_tidy (codes "id") (string (encode_utf8_all u.id)) no_members refl refl)

    parents_tidy : (o : Option (List (ActionEntityUID N G))) (ms : Members) → Tidy ms → Tidy
        (values.with_parents names o ms)
    parents_tidy None ms w = w
    parents_tidy (Some ids) ms w =
        put_tidy (codes "memberOf") (values.list_of (map (values.action_id_value names) ids)) ms
        (items_tidy (values.action_id_value names) id_tidy ids) w

    action_tidy : (p : List ℕ × ActionType N G) → untidy (values.action_entry names p).1 ≡ false
    action_tidy p =
        notes_tidy p.1.annotations.0 _ (flag_tidy p.1.external (codes "external") true _
        (parents_tidy p.1.member_of _ (spec_tidy p.1.applies_to _ (written_tidy p.1.attributes no_members refl))))

    -- ---- namespaces and fragments

    namespace_tidy : (p : Option Name × NamespaceDefinition N G) → untidy (values.namespace_entry names p).1 ≡ false
    namespace_tidy p =
        let entities = object_of (map (values.entity_entry names) p.1.entity_types) in
        let actions = object_of (map (values.action_entry names) p.1.actions) in
        let inner = put (codes "entityTypes") entities no_members in
        notes_tidy p.1.annotations.0
        (values.with_object (codes "commonTypes") (map (values.common_entry names) p.1.common_types) (put
        (codes "actions") actions inner))
        (object_tidy (codes "commonTypes") (values.common_entry names) common_tidy p.1.common_types
        (put (codes "actions") actions inner)
        (put_tidy (codes "actions") actions inner
        (all_tidy (values.action_entry names) action_tidy p.1.actions no_members refl)
        (put_tidy (codes "entityTypes") entities no_members
        (all_tidy (values.entity_entry names) entity_tidy p.1.entity_types no_members refl) refl)))

    pub fragment_tidy : (f : Fragment N G) → untidy (values.json_value names f) ≡ false
    fragment_tidy f = all_tidy (values.namespace_entry names) namespace_tidy f.0 no_members refl
