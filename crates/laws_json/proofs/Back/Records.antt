-- What is written of sayable records, and of all sayable types, reads back.
use Rattle.std.proofs.Common.{◌≡◌, ℕ, Bool, true, false, not, ◌&&◌, cond, List, [], ◌∷◌, map, Option, Some, None, refl}
use Rattle.std.proofs.Common.{sym}
use Rattle.std.proofs.Common.{ap, ◌∙◌, subst}
use Rattle.std.specs.Prelude.{codes}
use Rattle.std.specs.List.{AllByRecursion}
use Rattle.std.specs.List.Sorted.{IsStrictlySortedBy}
use Rattle.std.specs.Map.{keys_of}
use Rattle.std.specs.Str.{chars, encode_utf8_all}
use Rattle.std.proofs.lemmas.Str.{chars-encodes}
use Rattle.serde_json.specs.Data.{Data, boolean, object, Members, no_members, member}
use Rattle.serde_json.specs.Find.{get_member}
use Rattle.cedar_data.specs.Text.{text_cmp}
use Rattle.cedar_data.specs.declared.loc.Loc.{Loc}
use Rattle.cedar_data.proofs.Orders.{text_total}
use Rattle.cedar_identifiers.specs.declared.raw_name.RawName.{RawName}
use Rattle.schema_json.specs.Shapes.{is_empty_type, is_empty_record, record_type, empty_record}
use Rattle.schema_json.specs.Shapes.{has_none, is_empty_shape, is_empty_outside}
use Rattle.schema_json.specs.declared.types.Type.{«Type», Type-F, roll-Type, out-roll-Type}
use Rattle.schema_json.specs.declared.types.Type.TheVariants.{Variant, rolls-Variant}
use Rattle.schema_json.specs.declared.types.Type.TheVariants.{rolls-CommonTypeRef}
use Rattle.schema_json.specs.declared.types.TypeVariant.{TypeVariant, TypeVariant-F, roll-TypeVariant, out-TypeVariant}
use Rattle.schema_json.specs.declared.types.TypeVariant.{out-roll-TypeVariant}
use Rattle.schema_json.specs.declared.types.TypeVariant.TheVariants as variant
use Rattle.schema_json.specs.declared.types.RecordType.{RecordType, out-RecordType}
use Rattle.schema_json.specs.declared.types.TypeOfAttribute.{TypeOfAttribute, out-TypeOfAttribute}
use Rattle.schema_json_values.specs.TypeValues.{put_all, with_flag, attribute_members}
use Rattle.schema_json_values.specs.TypeValues.{attribute_entry, type_members, type_value}
use Rattle.schema_json_values.specs.FragmentValues.{with_optional_value, with_shape}
use Rattle.schema_json_values.proofs.Layers.{attribute_out, type_variant, variant_set, variant_record}
use Rattle.schema_json_shapes.specs.declared.words.TypeSite.TheVariants.{Plain, Attribute}
use Rattle.schema_json_shapes.specs.declared.words.TypeWord.TheVariants as word
use Rattle.schema_json_shapes.specs.Tables.{type_fields}
use Rattle.schema_json_shapes.specs.Walk.{AllMet, demands, typed, flag, type_member, flag_or, or_next}
use Rattle.schema_json_shapes.specs.Reads.{field_demands}
use Rattle.schema_json_shapes.specs.Said.{IsText, AreEntries, no_entry, next_entry, IsMap, IsAnnotationMap}
use Rattle.schema_json_shapes.specs.Said.{record_with, IsType, set_type, record_type as says_record, AreAttributes}
use Rattle.schema_json_shapes.specs.Said.{no_attribute, next_attribute}
use Rattle.schema_json_shapes.specs.Shapes.{IsShapeOrNone}
use Rattle.schema_json_shapes.proofs.Attributes.{AttributeEntry}
use Rattle.laws_translate.specs.Bare.{bare, bare_of_attribute}
use Rattle.laws_translate.proofs.BareTypes.{shape_bare, set_bare, record_at, bare_entry, attribute_from, attribute_bare}
use Rattle.laws_json.specs.Back.Sayable as is_sayable
use Rattle.laws_json.proofs.Back.Fields.{Fields, made, get_made, known_field, fit_field}
use Rattle.laws_json.proofs.Back.Placed.{rises_from, all_met, says_map}
use Rattle.laws_json.proofs.Back.Names.{flipped, texts_apart}
use Rattle.laws_json.proofs.Back.Notes.{notes_field, notes_value, notes_say, notes_met}
use Rattle.laws_json.proofs.Back.Types.{components, with_more, More, beside, TypeBack, of_fields, word_field}
use Rattle.laws_json.proofs.Back.Types.{word_here, site_complete, string_back, long_back, boolean_back, entity_back}
use Rattle.laws_json.proofs.Back.Types.{either_back, extension_back, reference_back}

-- ---- an attribute

-- `required` is written where it is false
abbrev required_field : Bool → Option Data
required_field true = None
required_field false = Some (boolean false)

required_value : (b : Bool) (ms : Members)
    → with_flag (not b) (codes "required") false ms ≡ with_optional_value (codes "required") (required_field b) ms
required_value true ms = refl
required_value false ms = refl

required_met : (b : Bool) → AllMet (field_demands flag (codes "required") (required_field b))
required_met true = tt
required_met false = tt

required_back : (b : Bool) → b ≡ flag_or true (required_field b)
required_back true = refl
required_back false = refl

attribute_is : (a : TypeOfAttribute RawName)
    → attribute_members components a ≡ beside (required_field (out-TypeOfAttribute RawName a).required)
    (notes_field (out-TypeOfAttribute RawName a).annotations.0)
    (type_members components (out-TypeOfAttribute RawName a).ty)
attribute_is a =
    let o = out-TypeOfAttribute RawName a in
    attribute_out RawName components a ∙ (required_value o.required _
    ∙ ap (with_optional_value (codes "required") (required_field o.required))
    (notes_value o.annotations.0 (type_members components o.ty)))

record SaidAttribute (d : Data) (a : TypeOfAttribute RawName) : Type 0 where
  inside : Members
  is : d ≡ object inside
  says : IsType (object inside) (out-TypeOfAttribute RawName a).ty
  annotated : IsAnnotationMap (get_member (codes "annotations") inside) (out-TypeOfAttribute RawName a).annotations
  marked : (out-TypeOfAttribute RawName a).required ≡ flag_or true (get_member (codes "required") inside)

attribute_said : (a : TypeOfAttribute RawName) → TypeBack (out-TypeOfAttribute RawName a).ty
    → is_sayable.AreSayableNotes (out-TypeOfAttribute RawName a).annotations
    → SaidAttribute (object (attribute_members components a)) (bare_of_attribute a)
attribute_said a b p =
    let o = out-TypeOfAttribute RawName a in
    let r = required_field o.required in
    let n = notes_field o.annotations.0 in
    let said : SaidAttribute (object (beside r n (type_members components o.ty)))
    (attribute_from (bare o.ty) o.annotations o.required) = record {
      inside = beside r n (type_members components o.ty);
      is = refl;
      says = b.says r n;
      annotated = subst (λ x. IsAnnotationMap x o.annotations) (sym (b.notes r n)) (notes_say o.annotations p);
      marked = required_back o.required ∙ ap (flag_or true) (sym (b.required r n));
    } in
    subst (λ ms. SaidAttribute (object ms) (bare_of_attribute a)) (sym (attribute_is a))
    (subst (SaidAttribute (object (beside r n (type_members components o.ty)))) (sym (attribute_bare a)) said)

attribute_met : (label : List ℕ) (a : TypeOfAttribute RawName) → TypeBack (out-TypeOfAttribute RawName a).ty
    → AllMet (demands (typed Attribute) label (object (attribute_members components a)))
attribute_met label a b =
    let o = out-TypeOfAttribute RawName a in
    subst (λ ms. AllMet (demands (typed Attribute) label (object ms))) (sym (attribute_is a))
    (b.met Attribute (required_field o.required) (notes_field o.annotations.0) label (record {
      may = tt;
      flag_met = required_met o.required;
      notes_met = notes_met (codes "annotations") o.annotations.0;
    }))

record AttributeBack (e : AttributeEntry) : Type 0 where
  met : (label : List ℕ) → AllMet (demands (typed Attribute) label (object (attribute_members components e.1)))
  named : IsText (encode_utf8_all e.0) e.0
  says : SaidAttribute (object (attribute_members components e.1)) (bare_of_attribute e.1)

-- ---- attributes

attributes_said : (ms : Members) (es : List AttributeEntry) → AreEntries IsText SaidAttribute ms es
    → AreAttributes ms es
attributes_said _ _ no_entry = no_attribute
attributes_said _ _ (next_entry k d ms key a es h g rest) =
    subst (λ q. AreAttributes (member k d ms) ((q, a) ∷ es)) (sym h)
    (subst (λ x. AreAttributes (member k x ms) ((chars k, a) ∷ es)) (sym g.is)
    (next_attribute k g.inside ms a es g.says g.annotated g.marked (attributes_said ms es rest)))

all_say : (es : List AttributeEntry) → AllByRecursion AttributeBack es
    → AllByRecursion (λ e. IsText (attribute_entry components e).0 (bare_entry e).0
    × SaidAttribute (attribute_entry components e).1 (bare_entry e).1) es
all_say [] h = tt
all_say (e ∷ es) h = ((h.0.named, h.0.says), all_say es h.1)

all_keep : (es : List AttributeEntry) → AllByRecursion AttributeBack es
    → AllByRecursion (λ e. AllMet []
    × AllMet (demands (typed Attribute) (attribute_entry components e).0 (attribute_entry components e).1)) es
all_keep [] h = tt
all_keep (e ∷ es) h = ((tt, h.0.met (encode_utf8_all e.0)), all_keep es h.1)

abbrev attribute_members_of : List AttributeEntry → Members
attribute_members_of es = put_all (map (attribute_entry components) es) no_members

attributes_map : (es : List AttributeEntry) → IsStrictlySortedBy text_cmp (keys_of es)
    → AllByRecursion AttributeBack es
    → IsMap text_cmp IsText SaidAttribute (object (attribute_members_of es)) (map bare_entry es)
attributes_map es rise h =
    says_map IsText SaidAttribute text_cmp (flipped text_cmp text_total) texts_apart (attribute_entry components)
    bare_entry es (rises_from text_cmp (λ (e : AttributeEntry). e.0) es rise) (all_say es h)

-- ---- records and sets

-- a flag is written where it is true
abbrev pub flag_field : Bool → Option Data
flag_field true = Some (boolean true)
flag_field false = None

pub flag_value : (b : Bool) (key : List ℕ) (ms : Members)
    → with_flag b key true ms ≡ with_optional_value key (flag_field b) ms
flag_value true key ms = refl
flag_value false key ms = refl

pub flag_met : (b : Bool) (key : List ℕ) → AllMet (field_demands flag key (flag_field b))
flag_met true key = tt
flag_met false key = tt

pub flag_back : (b : Bool) → b ≡ flag_or false (or_next (flag_field b) None)
flag_back true = refl
flag_back false = refl

abbrev record_fields : List AttributeEntry → Bool → Fields
record_fields es is_open =
    (codes "additionalAttributes", flag_field is_open)
    ∷ (codes "attributes", Some (object (attribute_members_of es))) ∷ word_field (codes "Record")

record_says : (es : List AttributeEntry) (is_open : Bool) (r n : Option Data)
    → IsMap text_cmp IsText SaidAttribute (object (attribute_members_of es)) (map bare_entry es)
    → IsType (object (made (with_more r n (record_fields es is_open)))) (record_with (map bare_entry es) is_open)
record_says es is_open r n m =
    let fs = with_more r n (record_fields es is_open) in
    let flag_is : flag_or false (get_member (codes "additionalAttributes") (made fs)) ≡ is_open =
    ap (flag_or false) (get_made (codes "additionalAttributes") fs) ∙ sym (flag_back is_open) in
    subst (λ b. IsType (object (made fs)) (record_with (map bare_entry es) b)) flag_is
    (subst (λ (xs : List AttributeEntry). IsType (object (made fs))
    (record_with xs (flag_or false (get_member (codes "additionalAttributes") (made fs))))) (sym m.2)
    (says_record (made fs) (attribute_members_of es) m.0
    (word_here (codes "Record") r n (record_fields es is_open) word.Record refl refl)
    (get_made (codes "attributes") fs) (attributes_said (attribute_members_of es) m.0 m.1)))

record_back : (loc : Option Loc) (x : RecordType RawName)
    → IsStrictlySortedBy text_cmp (keys_of (out-RecordType RawName x).attributes)
    → AllByRecursion AttributeBack (out-RecordType RawName x).attributes → TypeBack (Variant (variant.Record x) loc)
record_back loc x rise h =
    let es = (out-RecordType RawName x).attributes in
    let is_open = (out-RecordType RawName x).additional_attributes in
    let fs = record_fields es is_open in
    of_fields (Variant (variant.Record x) loc) (codes "Record") fs
    (type_variant RawName components (variant.Record x) loc ∙ (variant_record RawName components x
    ∙ flag_value is_open (codes "additionalAttributes") _)) refl refl refl
    (λ site. known_field (type_fields site word.Record) (codes "additionalAttributes") (flag_field is_open) _ refl
    (refl, (refl, tt)))
    (λ site r n. site_complete site (with_more r n fs))
    (fit_field (λ k. []) (type_member word.Record) (codes "additionalAttributes") (flag_field is_open) _ tt
    (flag_met is_open (codes "additionalAttributes")) (
      (tt, all_met (λ k. []) (λ k. typed Attribute) (attribute_entry components) es no_members (all_keep es h) tt),
      ((tt, tt), tt),
    ))
    (λ r n. subst (IsType (object (made (with_more r n fs)))) (sym (record_at x loc))
    (record_says es is_open r n (attributes_map es rise h)))

pub alone : More Plain None None
alone = record { may = tt; flag_met = tt; notes_met = tt }

set_back : (loc : Option Loc) (t : «Type» RawName) → TypeBack t → TypeBack (Variant (variant.Set t) loc)
set_back loc t b =
    let d = object (type_members components t) in
    let fs : Fields = (codes "element", Some d) ∷ word_field (codes "Set") in
    of_fields (Variant (variant.Set t) loc) (codes "Set") fs
    (type_variant RawName components (variant.Set t) loc ∙ variant_set RawName components t) refl refl refl
    (λ site. (refl, (refl, tt))) (λ site r n. site_complete site (with_more r n fs))
    ((tt, b.met Plain None None (codes "element") alone), ((tt, tt), tt))
    (λ r n. subst (IsType (object (made (with_more r n fs)))) (sym (shape_bare _ _ (set_bare t) loc))
    (set_type _ d (bare t) (word_here (codes "Set") r n fs word.Set refl refl)
    (get_made (codes "element") (with_more r n fs)) (b.says None None)))

-- ---- all types

mutual
  pub type_back : (t : «Type» RawName) → is_sayable.IsSayableType t → TypeBack t
  type_back _ (is_sayable.sayable_string loc) = string_back loc
  type_back _ (is_sayable.sayable_long loc) = long_back loc
  type_back _ (is_sayable.sayable_boolean loc) = boolean_back loc
  type_back _ (is_sayable.sayable_set loc t h) = set_back loc t (type_back t h)
  type_back _ (is_sayable.sayable_record loc r rise h) = record_back loc r rise (attributes_back _ h)
  type_back _ (is_sayable.sayable_entity loc n) = entity_back loc n
  type_back _ (is_sayable.sayable_either loc n) = either_back loc n
  type_back _ (is_sayable.sayable_extension loc id) = extension_back loc id
  type_back _ (is_sayable.sayable_reference loc n h) = reference_back loc n h

  attributes_back : (es : List AttributeEntry) → is_sayable.AreSayableAttributes es → AllByRecursion AttributeBack es
  attributes_back _ is_sayable.no_attribute = tt
  attributes_back _ (is_sayable.next_attribute name a es text notes h hs) =
      let b = type_back (out-TypeOfAttribute RawName a).ty h in (
        record {
          met = λ label. attribute_met label a b;
          named = sym (chars-encodes name text);
          says = attribute_said a b notes;
        },
        attributes_back es hs,
      )

-- ---- shapes and contexts, which are left out where they are the empty record

abbrev Outer : Type 0
Outer = Type-F RawName («Type» RawName) (TypeVariant RawName) (RecordType RawName) (TypeOfAttribute RawName)

abbrev Inner : Type 0
Inner = TypeVariant-F RawName («Type» RawName) (TypeVariant RawName) (RecordType RawName) (TypeOfAttribute RawName)

empty_rolled : (x : Outer) → is_empty_type (roll-Type RawName x) ≡ is_empty_outside x
empty_rolled x = ap is_empty_outside (out-roll-Type RawName x)

variant_empty : (v : TypeVariant RawName) (x : Inner) (loc : Option Loc) → roll-TypeVariant RawName x ≡ v
    → is_empty_type (Variant v loc) ≡ is_empty_shape x
variant_empty v x loc e =
    ap is_empty_type (sym (rolls-Variant v loc)) ∙ (empty_rolled (Type-F.Variant v loc)
    ∙ (ap (λ w. is_empty_shape (out-TypeVariant RawName w)) (sym e)
    ∙ ap is_empty_shape (out-roll-TypeVariant RawName x)))

-- a type that is no record is no empty one
not_empty : (v : TypeVariant RawName) (x : Inner) (loc : Option Loc) → roll-TypeVariant RawName x ≡ v
    → is_empty_shape x ≡ false → is_empty_type (Variant v loc) ≡ true → bare (Variant v loc) ≡ record_type empty_record
not_empty v x loc e h g = let no : false ≡ true = sym h ∙ (sym (variant_empty v x loc e) ∙ g) in absurd (cc)

record_empty : (r : RecordType RawName) (loc : Option Loc)
    → is_empty_type (Variant (variant.Record r) loc) ≡ is_empty_record r
record_empty r loc = variant_empty (variant.Record r) (TypeVariant-F.Record r) loc (variant.rolls-Record r)

none_written : (es : List AttributeEntry) (b : Bool) → (has_none es && not b) ≡ true
    → record_with (map bare_entry es) b ≡ record_type empty_record
none_written [] true h = absurd (cc)
none_written [] false h = refl
none_written (e ∷ es) b h = absurd (cc)

empty_back : (t : «Type» RawName) → is_sayable.IsSayableType t → is_empty_type t ≡ true
    → bare t ≡ record_type empty_record
empty_back _ (is_sayable.sayable_string loc) h = not_empty _ TypeVariant-F.String loc variant.rolls-String refl h
empty_back _ (is_sayable.sayable_long loc) h = not_empty _ TypeVariant-F.Long loc variant.rolls-Long refl h
empty_back _ (is_sayable.sayable_boolean loc) h = not_empty _ TypeVariant-F.Boolean loc variant.rolls-Boolean refl h
empty_back _ (is_sayable.sayable_set loc t p) h =
    not_empty _ (TypeVariant-F.Set t) loc (variant.rolls-Set t) refl h
empty_back _ (is_sayable.sayable_record loc r rise p) h =
    record_at r loc ∙ none_written (out-RecordType RawName r).attributes
    (out-RecordType RawName r).additional_attributes (sym (record_empty r loc) ∙ h)
empty_back _ (is_sayable.sayable_entity loc n) h =
    not_empty _ (TypeVariant-F.Entity n) loc (variant.rolls-Entity n) refl h
empty_back _ (is_sayable.sayable_either loc n) h =
    not_empty _ (TypeVariant-F.EntityOrCommon n) loc (variant.rolls-EntityOrCommon n) refl h
empty_back _ (is_sayable.sayable_extension loc id) h =
    not_empty _ (TypeVariant-F.Extension id) loc (variant.rolls-Extension id) refl h
empty_back _ (is_sayable.sayable_reference loc n free) h =
    let no : false ≡ true = sym (empty_rolled (Type-F.CommonTypeRef n loc))
    ∙ (ap is_empty_type (rolls-CommonTypeRef n loc) ∙ h) in absurd (cc)

abbrev shape_if : Bool → «Type» RawName → Option Data
shape_if true t = None
shape_if false t = Some (type_value components t)

abbrev pub shape_field : «Type» RawName → Option Data
shape_field t = shape_if (is_empty_type t) t

shape_value_at : (b : Bool) (key : List ℕ) (t : «Type» RawName) (ms : Members)
    → cond b ms (with_optional_value key (Some (type_value components t)) ms)
    ≡ with_optional_value key (shape_if b t) ms
shape_value_at true key t ms = refl
shape_value_at false key t ms = refl

pub shape_value : (key : List ℕ) (t : «Type» RawName) (ms : Members)
    → with_shape components key t ms ≡ with_optional_value key (shape_field t) ms
shape_value key t ms = shape_value_at (is_empty_type t) key t ms

shape_says_at : (b : Bool) (t : «Type» RawName) → is_sayable.IsSayableType t → is_empty_type t ≡ b
    → IsShapeOrNone (shape_if b t) (bare t)
shape_says_at true t p e = empty_back t p e
shape_says_at false t p e = (type_back t p).says None None

pub shape_says : (t : «Type» RawName) → is_sayable.IsSayableType t → IsShapeOrNone (shape_field t) (bare t)
shape_says t p = shape_says_at (is_empty_type t) t p refl

shape_met_at : (b : Bool) (label : List ℕ) (t : «Type» RawName) → is_sayable.IsSayableType t
    → AllMet (field_demands (typed Plain) label (shape_if b t))
shape_met_at true label t p = tt
shape_met_at false label t p = (type_back t p).met Plain None None label alone

pub shape_met : (label : List ℕ) (t : «Type» RawName) → is_sayable.IsSayableType t
    → AllMet (field_demands (typed Plain) label (shape_field t))
shape_met label t p = shape_met_at (is_empty_type t) label t p

pub shape_absent : (t : «Type» RawName) → is_empty_type t ≡ true → shape_field t ≡ None
shape_absent t e = ap (λ b. shape_if b t) e
