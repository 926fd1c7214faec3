-- The JSON value of a type. What says nothing is left out: `required` that is true, `additionalAttributes` that is
-- false, no annotations.
use Rattle.std.specs.Prelude.{ℕ, Bool, true, false, not, List, [], ◌∷◌, map, Option, Some, None, codes}
use Rattle.std.specs.Str.{encode_utf8_all}
use Rattle.serde_json.specs.Data.{Data, null, boolean, string, object, Members, no_members, member, put}
use Rattle.cedar_identifiers.specs.Names.{name_text}
use Rattle.cedar_identifiers.specs.declared.any_id.AnyId.{AnyId}
use Rattle.schema_json.specs.declared.types.Type.{«Type», Type-F, fold-Type}
use Rattle.schema_json.specs.declared.types.TypeVariant.{TypeVariant, TypeVariant-F, fold-TypeVariant}
use Rattle.schema_json.specs.declared.types.RecordType.{RecordType, RecordType-F, fold-RecordType}
use Rattle.schema_json.specs.declared.types.TypeOfAttribute.{TypeOfAttribute, TypeOfAttribute-F, fold-TypeOfAttribute}

-- ---- objects

-- the members with these put among them, one after another; members stand by the bytes of their keys
abbrev pub put_all : List (List ℕ × Data) → Members → Members
put_all [] ms = ms
put_all (e ∷ es) ms = put_all es (put e.0 e.1 ms)

-- the object of these members
abbrev pub object_of : List (List ℕ × Data) → Data
object_of es = object (put_all es no_members)

-- the members with this flag among them, where it is asked for
abbrev pub with_flag : Bool → List ℕ → Bool → Members → Members
with_flag true key flag ms = put key (boolean flag) ms
with_flag false key flag ms = ms

-- a text, or null
abbrev pub text_or_null : Option (List ℕ) → Data
text_or_null None = null
text_or_null (Some t) = string (encode_utf8_all t)

-- the value of an annotation under its key
abbrev pub annotation_entry : AnyId × Option (List ℕ) → List ℕ × Data
annotation_entry p = (p.0.text, text_or_null p.1)

-- the members with the annotations among them, where there are any
abbrev pub with_annotations : List (AnyId × Option (List ℕ)) → Members → Members
with_annotations [] ms = ms
with_annotations (a ∷ as_) ms = put (codes "annotations") (object_of (map annotation_entry (a ∷ as_))) ms

-- ---- types

-- the member `type` with this word, and no other
abbrev pub with_word : List ℕ → Members
with_word w = member (codes "type") (string w) no_members

abbrev pub layer_entry : List ℕ × Members → List ℕ × Data
layer_entry p = (encode_utf8_all p.0, object p.1)

-- the object of a type of records with these attributes, and with others where it is open
abbrev pub with_attributes : List (List ℕ × Data) → Bool → Members
with_attributes es is_open = with_flag is_open (codes "additionalAttributes") true
    (put (codes "attributes") (object_of es) (with_word (codes "Record")))

module _ {N : Type 0} (components : N → List (List ℕ)) where
  -- the bytes of a name: its components with `::` between two
  abbrev pub name_bytes : N → List ℕ
  name_bytes n = encode_utf8_all (name_text (components n))

  -- from the members of what is inside, those of each layer
  abbrev pub type_layer : Type-F N Members Members Members Members → Members
  type_layer (Type-F.Variant ty loc) = ty
  type_layer (Type-F.CommonTypeRef name loc) = with_word (name_bytes name)

  abbrev pub variant_layer : TypeVariant-F N Members Members Members Members → Members
  variant_layer TypeVariant-F.String = with_word (codes "String")
  variant_layer TypeVariant-F.Long = with_word (codes "Long")
  variant_layer TypeVariant-F.Boolean = with_word (codes "Boolean")
  variant_layer (TypeVariant-F.Set element) = put (codes "element") (object element) (with_word (codes "Set"))
  variant_layer (TypeVariant-F.Record attributes) = attributes
  variant_layer (TypeVariant-F.Entity name) = put (codes "name") (string (name_bytes name)) (with_word (codes "Entity"))
  variant_layer (TypeVariant-F.EntityOrCommon name) =
      put (codes "name") (string (name_bytes name)) (with_word (codes "EntityOrCommon"))
  variant_layer (TypeVariant-F.Extension id) = put (codes "name") (string id.id.text) (with_word (codes "Extension"))

  abbrev pub record_layer : RecordType-F N Members Members Members Members → Members
  record_layer r = with_attributes (map layer_entry r.attributes) r.additional_attributes

  abbrev pub attribute_layer : TypeOfAttribute-F N Members Members Members Members → Members
  attribute_layer a = with_flag (not a.required) (codes "required") false (with_annotations a.annotations.0 a.ty)

  -- the members of the object of a type
  abbrev pub type_members : «Type» N → Members
  type_members = fold-Type N Members Members Members Members type_layer variant_layer record_layer attribute_layer

  abbrev pub variant_members : TypeVariant N → Members
  variant_members = fold-TypeVariant N Members Members Members Members type_layer variant_layer record_layer
      attribute_layer

  abbrev pub record_members : RecordType N → Members
  record_members = fold-RecordType N Members Members Members Members type_layer variant_layer record_layer
      attribute_layer

  abbrev pub attribute_members : TypeOfAttribute N → Members
  attribute_members = fold-TypeOfAttribute N Members Members Members Members type_layer variant_layer record_layer
      attribute_layer

  -- an attribute by its name
  abbrev pub attribute_entry : List ℕ × TypeOfAttribute N → List ℕ × Data
  attribute_entry p = (encode_utf8_all p.0, object (attribute_members p.1))

  -- the JSON value of a type
  abbrev pub type_value : «Type» N → Data
  type_value t = object (type_members t)
