-- The members of entity types and actions, in the order of their keys.
use Rattle.std.proofs.Common.{◌≡◌, ℕ, Bool, true, false, List, [], ◌∷◌, map, Option, Some, None, refl, sym, ap, ◌∙◌}
use Rattle.std.proofs.Common.{subst}
use Rattle.std.specs.Prelude.{codes, if◌then◌else◌}
use Rattle.serde_json.specs.Data.{Data, Members, no_members, put}
use Rattle.cedar_identifiers.specs.declared.any_id.AnyId.{AnyId}
use Rattle.cedar_identifiers.specs.declared.name_text.NameText as named
use Rattle.schema_json.specs.Shapes.{is_empty_type}
use Rattle.schema_json.specs.declared.types.Type.{«Type»}
use Rattle.schema_json.specs.declared.entity_type.EntityTypeKind.{EntityTypeKind}
use Rattle.schema_json.specs.declared.entity_type.EntityTypeKind.TheVariants.{Standard, Enum}
use Rattle.schema_json.specs.declared.entity_type.StandardEntityType.{StandardEntityType}
use Rattle.schema_json.specs.declared.action_type.ActionType.{ActionType}
use Rattle.schema_json.specs.declared.action_type.ActionEntityUID.{ActionEntityUID}
use Rattle.schema_json.specs.declared.action_type.ApplySpec.{ApplySpec}
use Rattle.schema_json_values.specs.TypeValues.{with_flag, with_annotations, type_value}
use Rattle.schema_json_values.specs.FragmentValues.{with_optional_value, with_list, with_attribute_names, with_shape}
use Rattle.schema_json_values.specs.FragmentValues.{with_tags}
use Rattle.schema_json_values.specs.FragmentValues.{kind_members, name_value, with_applies_to, with_parents}
use Rattle.schema_json_text.specs.Members.{annotations_value, flag_value, list_value, nulls_value, shape_value}
use Rattle.schema_json_text.specs.Members.{tags_value, applies_value, parents_value}
use Rattle.schema_json_text.proofs.Slots.{opt, IsFirst, first_none, first_opt, put_first, put_past}

flag_is : (b : Bool) (key : List ℕ) (flag : Bool) (ms : Members)
    → with_flag b key flag ms ≡ with_optional_value key (flag_value b flag) ms
flag_is true key flag ms = refl
flag_is false key flag ms = refl

pub annotations_is : (as_ : List (AnyId × Option (List ℕ))) (ms : Members)
    → with_annotations as_ ms ≡ with_optional_value (codes "annotations") (annotations_value as_) ms
annotations_is [] ms = refl
annotations_is (a ∷ as_) ms = refl

list_is : (key : List ℕ) (ds : List Data) (ms : Members)
    → with_list key ds ms ≡ with_optional_value key (list_value ds) ms
list_is key [] ms = refl
list_is key (d ∷ ds) ms = refl

nulls_is : (names : Option (List (List ℕ))) (ms : Members)
    → with_attribute_names names ms ≡ with_optional_value (codes "attributes") (nulls_value names) ms
nulls_is None ms = refl
nulls_is (Some names) ms = refl

unless_is : (b : Bool) (key : List ℕ) (d : Data) (ms : Members)
    → (if b then ms else put key d ms) ≡ with_optional_value key (if b then None else Some d) ms
unless_is true key d ms = refl
unless_is false key d ms = refl

-- ---- entity types

external_order : (e p s t : Option Data)
    → with_optional_value (codes "external") e (with_optional_value (codes "tags") t (with_optional_value (codes "shape") s
    (with_optional_value (codes "memberOfTypes") p no_members)))
    ≡ opt (codes "external") e (opt (codes "memberOfTypes") p (opt (codes "shape") s (opt (codes "tags") t no_members)))
external_order e p s t =
    let external = codes "external" in
    let parents = codes "memberOfTypes" in
    let shape = codes "shape" in
    let tags = codes "tags" in
    let tagged = opt tags t no_members in
    let shaped = opt shape s tagged in
    let one : with_optional_value parents p no_members ≡ opt parents p no_members = put_first parents p no_members
    (first_none parents) in
    let two : with_optional_value shape s (with_optional_value parents p no_members)
    ≡ opt parents p (opt shape s no_members) =
    ap (with_optional_value shape s) one ∙ put_past shape parents s p no_members refl
    ∙ ap (opt parents p) (put_first shape s no_members (first_none shape)) in
    let three : with_optional_value tags t (with_optional_value shape s (with_optional_value parents p no_members))
    ≡ opt parents p shaped =
    ap (with_optional_value tags t) two ∙ put_past tags parents t p (opt shape s no_members) refl
    ∙ ap (opt parents p) (put_past tags shape t s no_members refl
    ∙ ap (opt shape s) (put_first tags t no_members (first_none tags))) in
    ap (with_optional_value external e) three
    ∙ put_first external e (opt parents p shaped) (first_opt external parents p shaped refl
    (first_opt external shape s tagged refl (first_opt external tags t no_members refl (first_none external))))

notes_first : (e p s t : Option Data)
    → IsFirst (codes "annotations") (opt (codes "external") e (opt (codes "memberOfTypes") p
    (opt (codes "shape") s (opt (codes "tags") t no_members))))
notes_first e p s t =
    let notes = codes "annotations" in
    let tagged = opt (codes "tags") t no_members in
    let shaped = opt (codes "shape") s tagged in
    first_opt notes (codes "external") e (opt (codes "memberOfTypes") p shaped) refl
    (first_opt notes (codes "memberOfTypes") p shaped refl (first_opt notes (codes "shape") s tagged refl
    (first_opt notes (codes "tags") t no_members refl (first_none notes))))

enum_first : (e : Bool) (d : Data)
    → IsFirst (codes "annotations") (with_flag e (codes "external") true (put (codes "enum") d no_members))
enum_first true d n = refl
enum_first false d n = refl

pub enum_slots : (e : Bool) (d : Data)
    → with_flag e (codes "external") true (put (codes "enum") d no_members)
    ≡ opt (codes "enum") (Some d) (opt (codes "external") (flag_value e true) no_members)
enum_slots true d = refl
enum_slots false d = refl

-- ---- actions

action_order : (a s t e p : Option Data)
    → with_optional_value (codes "annotations") a (with_optional_value (codes "external") e (with_optional_value (codes "memberOf") p
    (with_optional_value (codes "appliesTo") s (with_optional_value (codes "attributes") t no_members))))
    ≡ opt (codes "annotations") a (opt (codes "appliesTo") s (opt (codes "attributes") t
    (opt (codes "external") e (opt (codes "memberOf") p no_members))))
action_order a s t e p =
    let notes = codes "annotations" in
    let external = codes "external" in
    let parents = codes "memberOf" in
    let applies = codes "appliesTo" in
    let attributes = codes "attributes" in
    let bottom = opt parents p no_members in
    let lower = opt external e bottom in
    let middle = opt attributes t lower in
    let two : with_optional_value applies s (with_optional_value attributes t no_members)
    ≡ opt applies s (opt attributes t no_members) =
    ap (with_optional_value applies s) (put_first attributes t no_members (first_none attributes))
    ∙ put_first applies s (opt attributes t no_members)
    (first_opt applies attributes t no_members refl (first_none applies)) in
    let three : with_optional_value parents p
    (with_optional_value applies s (with_optional_value attributes t no_members))
    ≡ opt applies s (opt attributes t bottom) =
    ap (with_optional_value parents p) two ∙ put_past parents applies p s (opt attributes t no_members) refl
    ∙ ap (opt applies s) (put_past parents attributes p t no_members refl
    ∙ ap (opt attributes t) (put_first parents p no_members (first_none parents))) in
    let four : with_optional_value external e
    (with_optional_value parents p (with_optional_value applies s (with_optional_value attributes t no_members)))
    ≡ opt applies s middle =
    ap (with_optional_value external e) three ∙ put_past external applies e s (opt attributes t bottom) refl
    ∙ ap (opt applies s) (put_past external attributes e t bottom refl
    ∙ ap (opt attributes t) (put_first external e bottom
    (first_opt external parents p no_members refl (first_none external)))) in
    ap (with_optional_value notes a) four
    ∙ put_first notes a (opt applies s middle) (first_opt notes applies s middle refl
    (first_opt notes attributes t lower refl (first_opt notes external e bottom refl
    (first_opt notes parents p no_members refl (first_none notes)))))

module _ {N : Type 0} (names : N → List (List ℕ)) where
  pub shape_is : (key : List ℕ) (t : «Type» N) (ms : Members)
      → with_shape names key t ms ≡ with_optional_value key (shape_value names t) ms
  shape_is key t ms = unless_is (is_empty_type t) key (type_value names t) ms

  tags_is : (t : Option («Type» N)) (ms : Members)
      → with_tags names t ms ≡ with_optional_value (codes "tags") (tags_value names t) ms
  tags_is None ms = refl
  tags_is (Some t) ms = refl

  applies_is : (a : Option (ApplySpec N)) (ms : Members)
      → with_applies_to names a ms ≡ with_optional_value (codes "appliesTo") (applies_value names a) ms
  applies_is None ms = refl
  applies_is (Some a) ms = refl

  abbrev pub parents_slot : StandardEntityType N → Option Data
  parents_slot s = list_value (map (name_value names) s.member_of_types)

  pub standard_slots : (e : Bool) (s : StandardEntityType N)
      → with_flag e (codes "external") true (kind_members names (Standard s))
      ≡ opt (codes "external") (flag_value e true) (opt (codes "memberOfTypes") (parents_slot s)
      (opt (codes "shape") (shape_value names s.shape.0) (opt (codes "tags") (tags_value names s.tags) no_members)))
  standard_slots e s =
      let parents = map (name_value names) s.member_of_types in
      let one = list_is (codes "memberOfTypes") parents no_members in
      let two = shape_is (codes "shape") s.shape.0 (with_list (codes "memberOfTypes") parents no_members)
      ∙ ap (with_optional_value (codes "shape") (shape_value names s.shape.0)) one in
      let three = tags_is s.tags (with_shape names (codes "shape") s.shape.0
      (with_list (codes "memberOfTypes") parents no_members))
      ∙ ap (with_optional_value (codes "tags") (tags_value names s.tags)) two in
      flag_is e (codes "external") true (kind_members names (Standard s))
      ∙ ap (with_optional_value (codes "external") (flag_value e true)) three
      ∙ external_order (flag_value e true) (parents_slot s) (shape_value names s.shape.0) (tags_value names s.tags)

  entity_first : (e : Bool) (k : EntityTypeKind N)
      → IsFirst (codes "annotations") (with_flag e (codes "external") true (kind_members names k))
  entity_first e (Standard s) =
      subst (IsFirst (codes "annotations")) (sym (standard_slots e s))
      (notes_first (flag_value e true) (parents_slot s) (shape_value names s.shape.0) (tags_value names s.tags))
  entity_first e (Enum choices) = enum_first e _

  -- the annotations come first
  pub entity_slots : (as_ : List (AnyId × Option (List ℕ))) (e : Bool) (k : EntityTypeKind N)
      → with_annotations as_ (with_flag e (codes "external") true (kind_members names k))
      ≡ opt (codes "annotations") (annotations_value as_) (with_flag e (codes "external") true (kind_members names k))
  entity_slots as_ e k =
      annotations_is as_ (with_flag e (codes "external") true (kind_members names k))
      ∙ put_first (codes "annotations") (annotations_value as_)
      (with_flag e (codes "external") true (kind_members names k)) (entity_first e k)

  module _ {G : named.Ghosts N} where
    parents_is : (ids : Option (List (ActionEntityUID N G))) (ms : Members)
        → with_parents names ids ms ≡ with_optional_value (codes "memberOf") (parents_value names ids) ms
    parents_is None ms = refl
    parents_is (Some ids) ms = refl

    pub action_slots : (a : ActionType N G)
        → with_annotations a.annotations.0 (with_flag a.external (codes "external") true
        (with_parents names a.member_of
        (with_applies_to names a.applies_to (with_attribute_names a.attributes no_members))))
        ≡ opt (codes "annotations") (annotations_value a.annotations.0)
        (opt (codes "appliesTo") (applies_value names a.applies_to) (opt (codes "attributes") (nulls_value a.attributes)
        (opt (codes "external") (flag_value a.external true)
        (opt (codes "memberOf") (parents_value names a.member_of) no_members))))
    action_slots a =
        let one = nulls_is a.attributes no_members in
        let two = applies_is a.applies_to (with_attribute_names a.attributes no_members)
        ∙ ap (with_optional_value (codes "appliesTo") (applies_value names a.applies_to)) one in
        let three = parents_is a.member_of
        (with_applies_to names a.applies_to (with_attribute_names a.attributes no_members))
        ∙ ap (with_optional_value (codes "memberOf") (parents_value names a.member_of)) two in
        let four = flag_is a.external (codes "external") true
        (with_parents names a.member_of
        (with_applies_to names a.applies_to (with_attribute_names a.attributes no_members)))
        ∙ ap (with_optional_value (codes "external") (flag_value a.external true)) three in
        annotations_is a.annotations.0 (with_flag a.external (codes "external") true
        (with_parents names a.member_of
        (with_applies_to names a.applies_to (with_attribute_names a.attributes no_members))))
        ∙ ap (with_optional_value (codes "annotations") (annotations_value a.annotations.0)) four
        ∙ action_order (annotations_value a.annotations.0) (applies_value names a.applies_to) (nulls_value a.attributes)
        (flag_value a.external true) (parents_value names a.member_of)
