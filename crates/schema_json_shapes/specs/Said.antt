-- What values say, where they keep what they must.
use Rattle.std.specs.Prelude.{◌≡◌, ℕ, Bool, true, false, List, [], ◌∷◌, codes, Option, Some, None}
use Rattle.std.specs.Str.{chars}
use Rattle.std.specs.declared.cmp.Ordering.{Ordering}
use Rattle.serde_json.specs.Data.{Data, null, string, array, object, Items, no_items, item, Members, no_members, member}
use Rattle.serde_json.specs.Find.{get_member}
use Rattle.cedar_data.specs.Maps.{map_of}
use Rattle.cedar_data.specs.Text.{text_cmp}
use Rattle.cedar_identifiers.specs.Names.{components_of}
use Rattle.cedar_identifiers.specs.NameReading.{ReadsAs}
use Rattle.cedar_identifiers.specs.declared.name_kind.NameKind.TheVariants as kind
use Rattle.cedar_identifiers.specs.declared.annotations.Annotations.{Annotations}
use Rattle.cedar_identifiers.specs.declared.any_id.AnyId.{AnyId}
use Rattle.cedar_identifiers.specs.declared.eid.Eid.{Eid}
use Rattle.cedar_identifiers.specs.declared.raw_name.RawName.{RawName}
use Rattle.cedar_identifiers.specs.declared.unreserved_id.UnreservedId.{UnreservedId}
use Rattle.schema_json.specs.declared.types.Type.{«Type»}
use Rattle.schema_json.specs.declared.types.Type.TheVariants.{Variant, CommonTypeRef}
use Rattle.schema_json.specs.declared.types.TypeVariant.{TypeVariant}
use Rattle.schema_json.specs.declared.types.TypeVariant.TheVariants as variant
use Rattle.schema_json.specs.declared.types.RecordType.{roll-RecordType}
use Rattle.schema_json.specs.declared.types.TypeOfAttribute.{TypeOfAttribute, out-TypeOfAttribute}
use Rattle.schema_json.specs.Orders.{annotation_key_cmp}
use Rattle.schema_json_shapes.specs.declared.words.TypeWord.{TypeWord}
use Rattle.schema_json_shapes.specs.declared.words.TypeWord.TheVariants as word
use Rattle.schema_json_shapes.specs.Tables.{word_of}
use Rattle.schema_json_shapes.specs.Walk.{flag_or}

-- ---- names and words

-- the text is this name, which has no place
abbrev pub IsRawName : List ℕ → RawName → Type 0
IsRawName s n = ReadsAs kind.InternalName s (components_of n.name) × (n.name.loc ≡ None)

-- the text is this word
abbrev pub IsId : List ℕ → UnreservedId → Type 0
IsId s id = ReadsAs kind.UnreservedId s (id.id.text ∷ [])

-- the text is this word, be it reserved or not
abbrev pub IsAnyId : List ℕ → AnyId → Type 0
IsAnyId s id = ReadsAs kind.AnyId s (id.text ∷ [])

-- ---- flags, texts, lists and entries

-- a value that may be absent, of which P holds where it is there
abbrev pub IsOptional : {X : Type 0} → (Data → X → Type 0) → Option Data → Option X → Type 0
IsOptional P None o = o ≡ None
IsOptional {X} P (Some d) o = (x : X) × P d x × (o ≡ Some x)

-- null is read as absent
abbrev pub not_null : Option Data → Option Data
not_null None = None
not_null (Some null) = None
not_null (Some d) = Some d

-- the items one by one
pub data AreItems {X : Type 0} (P : Data → X → Type 0) : Items → List X → Type 0 where
  no_item : AreItems P no_items []
  next_item : (d : Data) (ds : Items) (x : X) (xs : List X) → P d x → AreItems P ds xs → AreItems P (item d ds) (x ∷ xs)

-- the value is an array, whose items say these in turn
abbrev pub IsList : {X : Type 0} → (Data → X → Type 0) → Data → List X → Type 0
IsList P (array ds) xs = AreItems P ds xs
IsList P _ xs = ⊥

-- an array that may be absent, which says these in turn; absent, it says none
abbrev pub IsListOrNone : {X : Type 0} → (Data → X → Type 0) → Option Data → List X → Type 0
IsListOrNone P None xs = xs ≡ []
IsListOrNone P (Some d) xs = IsList P d xs

-- the members one by one
pub data AreEntries {K V : Type 0} (Key : List ℕ → K → Type 0) (Value : Data → V → Type 0) : Members → List (K × V)
    → Type 0 where
  no_entry : AreEntries Key Value no_members []
  next_entry : (k : List ℕ) (d : Data) (ms : Members) (key : K) (value : V) (es : List (K × V)) → Key k key
      → Value d value
      → AreEntries Key Value ms es → AreEntries Key Value (member k d ms) ((key, value) ∷ es)

-- the value is an object, and the map is that of its members
abbrev pub IsMap : {K V : Type 0} → (K → K → Ordering) → (List ℕ → K → Type 0) → (Data → V → Type 0) → Data
    → List (K × V) → Type 0
IsMap {K} {V} order Key Value (object ms) es =
    (entries : List (K × V)) × AreEntries Key Value ms entries × (es ≡ map_of order entries)
IsMap order Key Value _ es = ⊥

-- the map of the members of an object, or the empty one where that is absent
abbrev pub IsMapOrNone : {K V : Type 0} → (K → K → Ordering) → (List ℕ → K → Type 0) → (Data → V → Type 0)
    → Option Data → List (K × V) → Type 0
IsMapOrNone order Key Value None es = es ≡ []
IsMapOrNone order Key Value (Some d) es = IsMap order Key Value d es

-- these are the characters of the text
abbrev pub IsText : List ℕ → List ℕ → Type 0
IsText s t = t ≡ chars s

-- the value is a text that is this name
abbrev pub IsNamed : Data → RawName → Type 0
IsNamed (string s) n = IsRawName s n
IsNamed _ n = ⊥

-- the value is a text that is this word
abbrev pub IsWordNamed : Data → UnreservedId → Type 0
IsWordNamed (string s) id = IsId s id
IsWordNamed _ id = ⊥

-- the value is a text, and the choice has its characters
abbrev pub IsChoice : Data → Eid → Type 0
IsChoice (string s) e = e.0 ≡ chars s
IsChoice _ e = ⊥

-- ---- annotations

-- what the value of an annotation says: a text, or none where it is null
abbrev pub IsAnnotation : Data → Option (List ℕ) → Type 0
IsAnnotation null o = o ≡ None
IsAnnotation (string s) o = o ≡ Some (chars s)
IsAnnotation _ o = ⊥

-- the annotations are the map of the object's members, of which there are none where it is absent
abbrev pub IsAnnotationMap : Option Data → Annotations → Type 0
IsAnnotationMap o a = IsMapOrNone annotation_key_cmp IsAnyId IsAnnotation o a.0

-- ---- types

-- the member `type` is a text that is this word
pub record HasWord (ms : Members) (w : TypeWord) : Type 0 where
  pub text : List ℕ
  pub there : get_member (codes "type") ms ≡ Some (string text)
  pub is_word : word_of text ≡ w

abbrev pub plain : TypeVariant RawName → «Type» RawName
plain v = Variant v None

abbrev pub record_with : List (List ℕ × TypeOfAttribute RawName) → Bool → «Type» RawName
record_with attributes is_open =
    plain (variant.Record (roll-RecordType RawName
    (record { attributes = attributes; additional_attributes = is_open })))

mutual
  -- the value says the type, which has no place
  pub data IsType : Data → «Type» RawName → Type 0 where
    string_type : (ms : Members) → HasWord ms word.String → IsType (object ms) (plain variant.String)
    long_type : (ms : Members) → HasWord ms word.Long → IsType (object ms) (plain variant.Long)
    boolean_type : (ms : Members) → HasWord ms word.Boolean → IsType (object ms) (plain variant.Boolean)
    set_type : (ms : Members) (d : Data) (t : «Type» RawName) → HasWord ms word.Set
        → get_member (codes "element") ms ≡ Some d → IsType d t
        → IsType (object ms) (plain (variant.Set t))
    record_type : (ms attributes : Members) (es : List (List ℕ × TypeOfAttribute RawName)) → HasWord ms word.Record
        → get_member (codes "attributes") ms ≡ Some (object attributes) → AreAttributes attributes es
        → IsType (object ms) (record_with (map_of text_cmp es)
        (flag_or false (get_member (codes "additionalAttributes") ms)))
    entity_type : (ms : Members) (s : List ℕ) (n : RawName) → HasWord ms word.Entity
        → get_member (codes "name") ms ≡ Some (string s) → IsRawName s n
        → IsType (object ms) (plain (variant.Entity n))
    either_type : (ms : Members) (s : List ℕ) (n : RawName) → HasWord ms word.EntityOrCommon
        → get_member (codes "name") ms ≡ Some (string s) → IsRawName s n
        → IsType (object ms) (plain (variant.EntityOrCommon n))
    extension_type : (ms : Members) (s : List ℕ) (id : UnreservedId) → HasWord ms word.Extension
        → get_member (codes "name") ms ≡ Some (string s) → IsId s id
        → IsType (object ms) (plain (variant.Extension id))
    reference : (ms : Members) (s : List ℕ) (n : RawName) → get_member (codes "type") ms ≡ Some (string s)
        → word_of s ≡ word.Reference → IsRawName s n → IsType (object ms) (CommonTypeRef n None)

  -- the members say the attributes
  pub data AreAttributes : Members → List (List ℕ × TypeOfAttribute RawName) → Type 0 where
    no_attribute : AreAttributes no_members []
    next_attribute : (k : List ℕ) (beside : Members) (ms : Members) (a : TypeOfAttribute RawName)
        (es : List (List ℕ × TypeOfAttribute RawName))
        → IsType (object beside) (out-TypeOfAttribute RawName a).ty
        → IsAnnotationMap (get_member (codes "annotations") beside) (out-TypeOfAttribute RawName a).annotations
        → (out-TypeOfAttribute RawName a).required ≡ flag_or true (get_member (codes "required") beside)
        → AreAttributes ms es → AreAttributes (member k (object beside) ms) ((chars k, a) ∷ es)

-- the object says the type, its annotations, and whether it is required
pub record IsTyped (ms : Members) (ty : «Type» RawName) (annotations : Annotations) (required : Bool) : Type 0 where
  pub says : IsType (object ms) ty
  pub annotated : IsAnnotationMap (get_member (codes "annotations") ms) annotations
  pub marked : required ≡ flag_or true (get_member (codes "required") ms)

-- the value is an object that says the type, its annotations, and whether it is required
abbrev pub SaysTyped : Data → «Type» RawName → Annotations → Bool → Type 0
SaysTyped (object ms) ty annotations required = IsTyped ms ty annotations required
SaysTyped _ ty annotations required = ⊥

-- the value says the attributes of a record
abbrev pub HasAttributes : Data → List (List ℕ × TypeOfAttribute RawName) → Type 0
HasAttributes (object ms) es =
    (entries : List (List ℕ × TypeOfAttribute RawName)) × AreAttributes ms entries × (es ≡ map_of text_cmp entries)
HasAttributes _ es = ⊥
