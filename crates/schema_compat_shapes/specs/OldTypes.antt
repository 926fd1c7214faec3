-- What the object of a type says in the deprecated form. Each object with a text as its member `type` says a type: the
-- shape that the text names, where the fields of that shape read, and else a reference, whose further fields are
-- ignored.
use Rattle.std.specs.Prelude.{◌≡◌, ℕ, Bool, true, false, not, ◌&&◌, ◌||◌, List, [], ◌∷◌, ◌++◌, codes, Option, Some}
use Rattle.std.specs.Prelude.{None}
use Rattle.std.specs.Prelude.{if◌then◌else◌, is_some}
use Rattle.std.specs.Str.{chars}
use Rattle.serde_json.specs.Data.{Data, boolean, string, object, Members, no_members, member}
use Rattle.serde_json.specs.Find.{get_member, as_object}
use Rattle.cedar_data.specs.Maps.{map_of}
use Rattle.cedar_data.specs.Text.{text_cmp}
use Rattle.schema_json_shapes.specs.declared.words.TypeWord.{TypeWord}
use Rattle.schema_json_shapes.specs.declared.words.TypeWord.TheVariants as word
use Rattle.schema_json_shapes.specs.Tables.{Field, needs, may_have, word_fields, first_unknown, word_of}
use Rattle.schema_json_shapes.specs.Walk.{flag_or}
use Rattle.schema_json_shapes.specs.Said.{HasWord}
use Rattle.schema_compat_types.specs.declared.types.SchemaType.{SchemaType}
use Rattle.schema_compat_types.specs.declared.types.SchemaType.TheVariants.{Variant, TypeDef}
use Rattle.schema_compat_types.specs.declared.types.SchemaTypeVariant.{SchemaTypeVariant}
use Rattle.schema_compat_types.specs.declared.types.SchemaTypeVariant.TheVariants as variant
use Rattle.schema_compat_types.specs.declared.types.TypeOfAttribute.{TypeOfAttribute, out-TypeOfAttribute}

-- ---- which fields read

-- a text
abbrev pub is_text : Option Data → Bool
is_text (Some (string s)) = true
is_text _ = false

-- a boolean, where it is there
abbrev pub is_flag_or_none : Option Data → Bool
is_flag_or_none None = true
is_flag_or_none (Some (boolean b)) = true
is_flag_or_none _ = false

-- the members of an object, where one is there
abbrev pub object_members : Option Data → Option Members
object_members None = None
object_members (Some d) = as_object d

-- an object with a text as its member `type`
abbrev pub is_old_type : Option Members → Bool
is_old_type None = false
is_old_type (Some ms) = is_text (get_member (codes "type") ms)

-- an object with a text as its member `type`, and with a boolean as its member `required`, where that is there
abbrev pub is_old_attribute : Option Members → Bool
is_old_attribute None = false
is_old_attribute (Some ms) =
    is_text (get_member (codes "type") ms) && is_flag_or_none (get_member (codes "required") ms)

-- each member is an attribute
abbrev pub are_all_attributes : Members → Bool
are_all_attributes no_members = true
are_all_attributes (member k d ms) = is_old_attribute (as_object d) && are_all_attributes ms

-- an object of attributes
abbrev pub are_old_attributes : Option Members → Bool
are_old_attributes None = false
are_old_attributes (Some ms) = are_all_attributes ms

-- the fields that go with the word read; an `EntityOrCommon` is no word of this form
abbrev pub inner_reads : TypeWord → Members → Bool
inner_reads word.String ms = true
inner_reads word.Long ms = true
inner_reads word.Boolean ms = true
inner_reads word.Set ms = is_old_type (object_members (get_member (codes "element") ms))
inner_reads word.Record ms =
    are_old_attributes (object_members (get_member (codes "attributes") ms))
    && is_flag_or_none (get_member (codes "additionalAttributes") ms)
inner_reads word.Entity ms = is_text (get_member (codes "name") ms)
inner_reads word.Extension ms = is_text (get_member (codes "name") ms)
inner_reads word.EntityOrCommon ms = false
inner_reads word.Reference ms = false

-- the fields of a type; only an attribute may have `required` beside it
abbrev pub old_type_fields : Bool → TypeWord → List Field
old_type_fields as_attribute w =
    needs (codes "type") ∷ (word_fields w ++ (if as_attribute then may_have (codes "required") ∷ [] else []))

-- no further field stands beside those of the type
abbrev pub has_no_other : Bool → TypeWord → Members → Bool
has_no_other as_attribute w ms = not (is_some (first_unknown (old_type_fields as_attribute w) ms))

-- beside these words further fields are ignored
abbrev pub ignores_others : TypeWord → Bool
ignores_others word.String = true
ignores_others word.Long = true
ignores_others word.Boolean = true
ignores_others _ = false

-- the object reads as the shape that its word names
abbrev pub reads_as_shape : Bool → TypeWord → Members → Bool
reads_as_shape as_attribute w ms = inner_reads w ms && (ignores_others w || has_no_other as_attribute w ms)

-- ---- what is read

mutual
  -- the object says the type, where it stands as an attribute or not
  pub data SaysOldType : Bool → Members → SchemaType → Type 0 where
    old_variant : (as_attribute : Bool) (ms : Members) (s : List ℕ) (v : SchemaTypeVariant)
        → get_member (codes "type") ms ≡ Some (string s) → reads_as_shape as_attribute (word_of s) ms ≡ true
        → SaysOldVariant ms v → SaysOldType as_attribute ms (Variant v)
    old_reference : (as_attribute : Bool) (ms : Members) (s : List ℕ) → get_member (codes "type") ms ≡ Some (string s)
        → reads_as_shape as_attribute (word_of s) ms ≡ false → SaysOldType as_attribute ms (TypeDef (chars s))

  -- the word of the object and the fields that go with it say the shape
  pub data SaysOldVariant : Members → SchemaTypeVariant → Type 0 where
    old_string : (ms : Members) → HasWord ms word.String → SaysOldVariant ms variant.String
    old_long : (ms : Members) → HasWord ms word.Long → SaysOldVariant ms variant.Long
    old_boolean : (ms : Members) → HasWord ms word.Boolean → SaysOldVariant ms variant.Boolean
    old_set : (ms inner : Members) (t : SchemaType) → HasWord ms word.Set
        → get_member (codes "element") ms ≡ Some (object inner) → SaysOldType false inner t
        → SaysOldVariant ms (variant.Set t)
    old_record : (ms attributes : Members) (es : List (List ℕ × TypeOfAttribute)) → HasWord ms word.Record
        → get_member (codes "attributes") ms ≡ Some (object attributes) → SayOldAttributes attributes es
        → SaysOldVariant ms (variant.Record (map_of text_cmp es)
        (flag_or false (get_member (codes "additionalAttributes") ms)))
    old_entity : (ms : Members) (s : List ℕ) → HasWord ms word.Entity → get_member (codes "name") ms ≡ Some (string s)
        → SaysOldVariant ms (variant.Entity (chars s))
    old_extension : (ms : Members) (s : List ℕ) → HasWord ms word.Extension
        → get_member (codes "name") ms ≡ Some (string s) → SaysOldVariant ms (variant.Extension (chars s))

  -- the members say the attributes
  pub data SayOldAttributes : Members → List (List ℕ × TypeOfAttribute) → Type 0 where
    no_old_attribute : SayOldAttributes no_members []
    next_old_attribute : (k : List ℕ) (beside ms : Members) (a : TypeOfAttribute) (es : List (List ℕ × TypeOfAttribute))
        → SaysOldType true beside (out-TypeOfAttribute a).ty
        → (out-TypeOfAttribute a).required ≡ flag_or true (get_member (codes "required") beside)
        → SayOldAttributes ms es → SayOldAttributes (member k (object beside) ms) ((chars k, a) ∷ es)
