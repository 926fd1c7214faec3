-- What a value says is one.
use Rattle.std.proofs.Common.{◌≡◌, ℕ, Bool, List, [], ◌∷◌, Option, Some, None, Ordering, refl, sym, ap, ◌∙◌, subst}
use Rattle.std.proofs.lemmas.Option.{same_Some}
use Rattle.std.specs.Prelude.{codes}
use Rattle.std.specs.Str.{chars}
use Rattle.serde_json.specs.Data.{Data, null, boolean, number, string, array, object, Items, Members}
use Rattle.serde_json.specs.Find.{get_member}
use Rattle.cedar_data.specs.Maps.{map_of}
use Rattle.cedar_data.specs.Text.{text_cmp}
use Rattle.cedar_identifiers.specs.Names.{components_of, texts_of}
use Rattle.cedar_identifiers.specs.declared.annotations.Annotations.{Annotations}
use Rattle.cedar_identifiers.specs.declared.any_id.AnyId.{AnyId}
use Rattle.cedar_identifiers.specs.declared.internal_name.InternalName.{InternalName}
use Rattle.cedar_identifiers.specs.declared.name_kind.NameKind.TheVariants as kind
use Rattle.cedar_identifiers.specs.declared.raw_name.RawName.{RawName}
use Rattle.cedar_identifiers.specs.declared.unreserved_id.UnreservedId.{UnreservedId}
use Rattle.cedar_identifiers.proofs.Same.{any_id_same, id_same, unreserved_id_same, ids_same}
use Rattle.cedar_identifiers.proofs.Unique.{one_name}
use Rattle.schema_json.specs.declared.types.Type.{«Type»}
use Rattle.schema_json.specs.declared.types.Type.TheVariants.{CommonTypeRef}
use Rattle.schema_json.specs.declared.types.TypeVariant.TheVariants as variant
use Rattle.schema_json.specs.declared.types.TypeOfAttribute.{TypeOfAttribute, out-TypeOfAttribute, roll-TypeOfAttribute}
use Rattle.schema_json.specs.declared.types.TypeOfAttribute.{roll-out-TypeOfAttribute}
use Rattle.schema_json.specs.Orders.{annotation_key_cmp}
use Rattle.schema_json_shapes.specs.declared.words.TypeWord.{TypeWord}
use Rattle.schema_json_shapes.specs.declared.words.TypeWord.TheVariants as word
use Rattle.schema_json_shapes.specs.Tables.{word_of}
use Rattle.schema_json_shapes.specs.Walk.{flag_or}
use Rattle.schema_json_shapes.specs.Said.{IsRawName, IsId, IsAnyId, IsOptional, AreItems, no_item, next_item, IsList}
use Rattle.schema_json_shapes.specs.Said.{IsListOrNone, AreEntries, no_entry, next_entry, IsMap, IsMapOrNone}
use Rattle.schema_json_shapes.specs.Said.{IsAnnotation, IsAnnotationMap, HasWord, plain, record_with}
use Rattle.schema_json_shapes.specs.Said.{IsType, string_type, long_type, boolean_type, set_type, record_type}
use Rattle.schema_json_shapes.specs.Said.{entity_type, either_type, extension_type, reference, AreAttributes}
use Rattle.schema_json_shapes.specs.Said.{no_attribute, next_attribute}

-- ---- names and words

-- names of the same components and the same place are the same
pub internal_same : (a b : InternalName) → components_of a ≡ components_of b → a.loc ≡ b.loc → a ≡ b
internal_same a b e place =
    let first : a.first.text ≡ b.first.text = cc in
    let others : texts_of a.others ≡ texts_of b.others = cc in
    λ i. record {
      first = id_same a.first b.first first i;
      others = ids_same a.others b.others others i;
      loc =
          place i;
    }

pub one_raw_name : (s : List ℕ) (n m : RawName) → IsRawName s n → IsRawName s m → n ≡ m
one_raw_name s n m h k =
    let same = internal_same n.name m.name (one_name s kind.InternalName (components_of n.name)
    (components_of m.name) h.0 k.0) (h.1 ∙ sym k.1) in
    λ i. record { name = same i }

pub one_id : (s : List ℕ) (a b : UnreservedId) → IsId s a → IsId s b → a ≡ b
one_id s a b h k =
    let words = one_name s kind.UnreservedId (a.id.text ∷ []) (b.id.text ∷ []) h k in
    let same : a.id.text ≡ b.id.text = cc in
    unreserved_id_same a b same

one_any_id : (s : List ℕ) (a b : AnyId) → IsAnyId s a → IsAnyId s b → a ≡ b
one_any_id s a b h k =
    let words = one_name s kind.AnyId (a.text ∷ []) (b.text ∷ []) h k in
    let same : a.text ≡ b.text = cc in
    any_id_same a b same

-- ---- lists and maps

-- a part says one thing at most
abbrev pub Once : {X : Type 0} → (Data → X → Type 0) → Type 0
Once {X} P = (d : Data) (x y : X) → P d x → P d y → x ≡ y

module _ {X : Type 0} (P : Data → X → Type 0) (one : Once P) where
  pub optional_once : (o : Option Data) (x y : Option X) → IsOptional P o x → IsOptional P o y → x ≡ y
  optional_once None x y h k = h ∙ sym k
  optional_once (Some d) x y h k = h.2 ∙ (ap Some (one d h.0 k.0 h.1 k.1) ∙ sym k.2)

  items_once : (ds : Items) (xs ys : List X) → AreItems P ds xs → AreItems P ds ys → xs ≡ ys
  items_once ds xs ys no_item no_item = refl
  items_once ds xs ys (next_item d rest x as' h hs) (next_item _ _ y bs k ks) =
      λ i. one d x y h k i ∷ items_once rest as' bs hs ks i

  pub list_once : (d : Data) (xs ys : List X) → IsList P d xs → IsList P d ys → xs ≡ ys
  list_once null xs ys h k = absurd h
  list_once (boolean b) xs ys h k = absurd h
  list_once (number n) xs ys h k = absurd h
  list_once (string s) xs ys h k = absurd h
  list_once (array ds) xs ys h k = items_once ds xs ys h k
  list_once (object ms) xs ys h k = absurd h

  pub list_or_none_once : (o : Option Data) (xs ys : List X) → IsListOrNone P o xs → IsListOrNone P o ys → xs ≡ ys
  list_or_none_once None xs ys h k = h ∙ sym k
  list_or_none_once (Some d) xs ys h k = list_once d xs ys h k

  -- what is there is one
  pub there_once : (o : Option Data) (x y : X) → ((d : Data) × (o ≡ Some d) × P d x) → ((d : Data) × (o ≡ Some d)
      × P d y)
      → x ≡ y
  there_once o x y h k =
      one h.0 x y h.2 (subst (λ d. P d y) (same_Some k.0 h.0 (sym k.1 ∙ h.1)) k.2)

module _ {K V : Type 0} (order : K → K → Ordering) (Key : List ℕ → K → Type 0) (Value : Data → V → Type 0)
    (keys : (s : List ℕ) (a b : K) → Key s a → Key s b → a ≡ b) (values : Once Value) where
  entries_once : (ms : Members) (es fs : List (K × V)) → AreEntries Key Value ms es → AreEntries Key Value ms fs
      → es ≡ fs
  entries_once ms es fs no_entry no_entry = refl
  entries_once ms es fs (next_entry k d rest a x as' ka vx hs) (next_entry _ _ _ b y bs kb vy gs) =
      λ i. (keys k a b ka kb i, values d x y vx vy i) ∷ entries_once rest as' bs hs gs i

  pub map_once : (d : Data) (es fs : List (K × V)) → IsMap order Key Value d es → IsMap order Key Value d fs → es ≡ fs
  map_once null es fs h k = absurd h
  map_once (boolean b) es fs h k = absurd h
  map_once (number n) es fs h k = absurd h
  map_once (string s) es fs h k = absurd h
  map_once (array ds) es fs h k = absurd h
  map_once (object ms) es fs h k = h.2 ∙ (ap (map_of order) (entries_once ms h.0 k.0 h.1 k.1) ∙ sym k.2)

  pub map_or_none_once : (o : Option Data) (es fs : List (K × V)) → IsMapOrNone order Key Value o es
      → IsMapOrNone order Key Value o fs → es ≡ fs
  map_or_none_once None es fs h k = h ∙ sym k
  map_or_none_once (Some d) es fs h k = map_once d es fs h k

-- ---- annotations

one_annotation : (d : Data) (x y : Option (List ℕ)) → IsAnnotation d x → IsAnnotation d y → x ≡ y
one_annotation null x y h k = h ∙ sym k
one_annotation (boolean b) x y h k = absurd h
one_annotation (number n) x y h k = absurd h
one_annotation (string s) x y h k = h ∙ sym k
one_annotation (array ds) x y h k = absurd h
one_annotation (object ms) x y h k = absurd h

pub annotations_once : (o : Option Data) (a b : Annotations) → IsAnnotationMap o a → IsAnnotationMap o b → a ≡ b
annotations_once o a b h k =
    let same = map_or_none_once annotation_key_cmp IsAnyId IsAnnotation one_any_id one_annotation o a.0 b.0 h k in
    λ i. record { 0 = same i }

-- ---- types

abbrev AttributeEntry : Type 0
AttributeEntry = List ℕ × TypeOfAttribute RawName

-- what the members of a type of this word say
abbrev SaysBy : TypeWord → Members → «Type» RawName → Type 0
SaysBy word.String ms t = t ≡ plain variant.String
SaysBy word.Long ms t = t ≡ plain variant.Long
SaysBy word.Boolean ms t = t ≡ plain variant.Boolean
SaysBy word.Set ms t = (d : Data) × (e : «Type» RawName) × (get_member (codes "element") ms ≡ Some d) × IsType d e
    × (t ≡ plain (variant.Set e))
SaysBy word.Record ms t = (inner : Members) × (es : List AttributeEntry)
    × (get_member (codes "attributes") ms ≡ Some (object inner)) × AreAttributes inner es
    × (t ≡ record_with (map_of text_cmp es) (flag_or Bool.false (get_member (codes "additionalAttributes") ms)))
SaysBy word.Entity ms t = (s : List ℕ) × (n : RawName) × (get_member (codes "name") ms ≡ Some (string s))
    × IsRawName s n
    × (t ≡ plain (variant.Entity n))
SaysBy word.EntityOrCommon ms t = (s : List ℕ) × (n : RawName) × (get_member (codes "name") ms ≡ Some (string s))
    × IsRawName s n × (t ≡ plain (variant.EntityOrCommon n))
SaysBy word.Extension ms t = (s : List ℕ) × (id : UnreservedId) × (get_member (codes "name") ms ≡ Some (string s))
    × IsId s id × (t ≡ plain (variant.Extension id))
SaysBy word.Reference ms t = (s : List ℕ) × (n : RawName) × (get_member (codes "type") ms ≡ Some (string s))
    × IsRawName s n × (t ≡ CommonTypeRef n None)

pub one_string : (s t : List ℕ) → Some (string s) ≡ Some (string t) → s ≡ t
one_string s t e = cc

pub one_object : (ms ns : Members) → Some (object ms) ≡ Some (object ns) → ms ≡ ns
one_object ms ns e = cc

-- what goes by one word goes by the text
at_text : (ms : Members) (t : «Type» RawName) (s : List ℕ) (w : TypeWord) → get_member (codes "type") ms ≡ Some
    (string s)
    → HasWord ms w → SaysBy w ms t → SaysBy (word_of s) ms t
at_text ms t s w there h says =
    subst (λ v. SaysBy v ms t) (sym (ap word_of (one_string s h.text (sym there ∙ h.there)) ∙ h.is_word)) says

by_text : (ms : Members) (t : «Type» RawName) (s : List ℕ) → get_member (codes "type") ms ≡ Some (string s)
    → IsType (object ms) t → SaysBy (word_of s) ms t
by_text ms t s there (string_type _ h) = at_text ms t s word.String there h refl
by_text ms t s there (long_type _ h) = at_text ms t s word.Long there h refl
by_text ms t s there (boolean_type _ h) = at_text ms t s word.Boolean there h refl
by_text ms t s there (set_type _ d e h at inner) = at_text ms t s word.Set there h (d, e, at, inner, refl)
by_text ms t s there (record_type _ inner es h at says) = at_text ms t s word.Record there h (inner, es, at, says, refl)
by_text ms t s there (entity_type _ u n h at is) = at_text ms t s word.Entity there h (u, n, at, is, refl)
by_text ms t s there (either_type _ u n h at is) = at_text ms t s word.EntityOrCommon there h (u, n, at, is, refl)
by_text ms t s there (extension_type _ u id h at is) = at_text ms t s word.Extension there h (u, id, at, is, refl)
by_text ms t s there (reference _ u n at h is) =
    subst (λ v. SaysBy v ms t) (sym (ap word_of (one_string s u (sym there ∙ at)) ∙ h)) (u, n, at, is, refl)

by_word : (ms : Members) (t : «Type» RawName) (w : TypeWord) → HasWord ms w → IsType (object ms) t → SaysBy w ms t
by_word ms t w h k = subst (λ v. SaysBy v ms t) h.is_word (by_text ms t h.text h.there k)

mutual
  pub one_type : (d : Data) (t u : «Type» RawName) → IsType d t → IsType d u → t ≡ u
  one_type d t u (string_type ms h) k = sym (by_word ms u word.String h k)
  one_type d t u (long_type ms h) k = sym (by_word ms u word.Long h k)
  one_type d t u (boolean_type ms h) k = sym (by_word ms u word.Boolean h k)
  one_type d t u (set_type ms e x h at inner) k =
      let v = by_word ms u word.Set h k in
      let same : v.0 ≡ e = same_Some v.0 e (sym v.2 ∙ at) in
      ap (λ z. plain (variant.Set z)) (one_type e x v.1 inner (subst (λ z. IsType z v.1) same v.3)) ∙ sym v.4
  one_type d t u (record_type ms inner es h at says) k =
      let v = by_word ms u word.Record h k in
      let same : v.0 ≡ inner = one_object v.0 inner (sym v.2 ∙ at) in
      ap (λ z. record_with (map_of text_cmp z) (flag_or Bool.false (get_member (codes "additionalAttributes") ms)))
      (attributes_once inner es v.1 says (subst (λ z. AreAttributes z v.1) same v.3))
      ∙ sym v.4
  one_type d t u (entity_type ms s n h at is) k =
      let v = by_word ms u word.Entity h k in
      let same : v.0 ≡ s = one_string v.0 s (sym v.2 ∙ at) in
      ap (λ z. plain (variant.Entity z)) (one_raw_name s n v.1 is (subst (λ z. IsRawName z v.1) same v.3)) ∙ sym v.4
  one_type d t u (either_type ms s n h at is) k =
      let v = by_word ms u word.EntityOrCommon h k in
      let same : v.0 ≡ s = one_string v.0 s (sym v.2 ∙ at) in
      ap (λ z. plain (variant.EntityOrCommon z)) (one_raw_name s n v.1 is (subst (λ z. IsRawName z v.1) same v.3))
      ∙ sym v.4
  one_type d t u (extension_type ms s id h at is) k =
      let v = by_word ms u word.Extension h k in
      let same : v.0 ≡ s = one_string v.0 s (sym v.2 ∙ at) in
      ap (λ z. plain (variant.Extension z)) (one_id s id v.1 is (subst (λ z. IsId z v.1) same v.3)) ∙ sym v.4
  one_type d t u (reference ms s n at h is) k =
      let v = subst (λ w. SaysBy w ms u) h (by_text ms u s at k) in
      let same : v.0 ≡ s = one_string v.0 s (sym v.2 ∙ at) in
      ap (λ z. CommonTypeRef z None) (one_raw_name s n v.1 is (subst (λ z. IsRawName z v.1) same v.3)) ∙ sym v.4

  attributes_once : (ms : Members) (es fs : List AttributeEntry) → AreAttributes ms es → AreAttributes ms fs → es ≡ fs
  attributes_once ms es fs no_attribute no_attribute = refl
  attributes_once ms es fs (next_attribute k beside rest a as' h notes mark hs)
      (next_attribute _ _ _ b bs g noted marked gs) =
      let out : out-TypeOfAttribute RawName a ≡ out-TypeOfAttribute RawName b = λ i. record {
        ty = one_type (object beside) (out-TypeOfAttribute RawName a).ty (out-TypeOfAttribute RawName b).ty h g i;
        annotations = annotations_once (get_member (codes "annotations") beside)
            (out-TypeOfAttribute RawName a).annotations (out-TypeOfAttribute RawName b).annotations notes noted i;
        required = (mark ∙ sym marked) i;
      } in
      let same : a ≡ b = sym (roll-out-TypeOfAttribute RawName a) ∙ (ap (roll-TypeOfAttribute RawName) out
      ∙ roll-out-TypeOfAttribute RawName b) in
      λ i. (chars k, same i) ∷ attributes_once rest as' bs hs gs i
