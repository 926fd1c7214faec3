-- What is written of a type of a fragment, whatever its names are, and its text, as bytes.
use Rattle.std.specs.Prelude.{ℕ, Bool, true, false, List, [], ◌∷◌, ◌++◌, codes, map}
use Rattle.std.specs.Str.{encode_utf8_all}
use Rattle.schema_json.specs.declared.types.Type.{«Type», Type-F, fold-Type}
use Rattle.schema_json.specs.declared.types.TypeVariant.{TypeVariant, TypeVariant-F, fold-TypeVariant}
use Rattle.schema_json.specs.declared.types.RecordType.{RecordType, RecordType-F, fold-RecordType}
use Rattle.schema_json.specs.declared.types.TypeOfAttribute.{TypeOfAttribute, TypeOfAttribute-F, fold-TypeOfAttribute}
use Rattle.schema_syntax_grammar.specs.declared.token_kind.TokenKind.TheVariants.{Colon}
use Rattle.schema_syntax_reader.specs.Leaves.{Notes}
use Rattle.schema_syntax_tokens.specs.Laid.{Piece, laid}
use Rattle.laws_written.specs.Written.{WrittenType, WrittenAttributes, path, set, rec, no_more, attribute}
use Rattle.laws_written.specs.Meant.{under_cedar}
use Rattle.laws_written.specs.Printed.{mark, space, mark_pieces, type_pieces}

-- the bytes of a name's components
abbrev pub printed_name : List (List ℕ) → List (List ℕ)
printed_name components = map encode_utf8_all components

-- what stands behind the name of an attribute: `?` where it is not required, `: `, and these pieces
abbrev pub colon_pieces : Bool → List Piece → List Piece
colon_pieces required pieces = mark_pieces required ++ mark Colon (codes ":") ∷ space ∷ pieces

-- a record without attributes
abbrev pub is_bare_record : WrittenType → Bool
is_bare_record (rec no_more) = true
is_bare_record (rec (attribute ns n r t xs)) = false
is_bare_record (path p) = false
is_bare_record (set t) = false

-- what is written of an attribute beside its name
pub record PrintedAttribute : Type 0 where
  pub notes : Notes
  pub required : Bool
  pub ty : WrittenType

-- the attributes of a record, in the order of their names
abbrev pub printed_attributes : List (List ℕ × PrintedAttribute) → WrittenAttributes
printed_attributes [] = no_more
printed_attributes (p ∷ ps) = attribute p.1.notes p.0 p.1.required p.1.ty (printed_attributes ps)

module _ {N : Type 0} (components : N → List (List ℕ)) where
  -- a reference of any kind is its name
  abbrev pub printed_reference : N → WrittenType
  printed_reference name = path (printed_name (components name))

  abbrev pub type_layer : Type-F N WrittenType WrittenType WrittenAttributes PrintedAttribute → WrittenType
  type_layer (Type-F.Variant ty loc) = ty
  type_layer (Type-F.CommonTypeRef name loc) = printed_reference name

  abbrev pub variant_layer : TypeVariant-F N WrittenType WrittenType WrittenAttributes PrintedAttribute → WrittenType
  variant_layer TypeVariant-F.String = under_cedar (codes "String")
  variant_layer TypeVariant-F.Long = under_cedar (codes "Long")
  variant_layer TypeVariant-F.Boolean = under_cedar (codes "Bool")
  variant_layer (TypeVariant-F.Set element) = set element
  variant_layer (TypeVariant-F.Record attributes) = rec attributes
  variant_layer (TypeVariant-F.Entity name) = printed_reference name
  variant_layer (TypeVariant-F.EntityOrCommon name) = printed_reference name
  variant_layer (TypeVariant-F.Extension name) = under_cedar name.id.text

  -- an open record is written as a closed one
  abbrev pub record_layer : RecordType-F N WrittenType WrittenType WrittenAttributes PrintedAttribute
      → WrittenAttributes
  record_layer r = printed_attributes r.attributes

  abbrev pub attribute_layer : TypeOfAttribute-F N WrittenType WrittenType WrittenAttributes PrintedAttribute
      → PrintedAttribute
  attribute_layer a = record { notes = a.annotations.0; required = a.required; ty = a.ty }

  -- what is written of a type
  abbrev pub printed_type : «Type» N → WrittenType
  printed_type =
      fold-Type N WrittenType WrittenType WrittenAttributes PrintedAttribute type_layer variant_layer record_layer
      attribute_layer

  abbrev pub printed_variant : TypeVariant N → WrittenType
  printed_variant =
      fold-TypeVariant N WrittenType WrittenType WrittenAttributes PrintedAttribute type_layer variant_layer
      record_layer attribute_layer

  abbrev pub printed_record : RecordType N → WrittenAttributes
  printed_record =
      fold-RecordType N WrittenType WrittenType WrittenAttributes PrintedAttribute type_layer variant_layer
      record_layer attribute_layer

  abbrev pub printed_attribute : TypeOfAttribute N → PrintedAttribute
  printed_attribute =
      fold-TypeOfAttribute N WrittenType WrittenType WrittenAttributes PrintedAttribute type_layer variant_layer
      record_layer attribute_layer

  -- the attributes of a record's entries
  abbrev pub printed_entries : List (List ℕ × TypeOfAttribute N) → WrittenAttributes
  printed_entries [] = no_more
  printed_entries (e ∷ es) =
      attribute (printed_attribute e.1).notes e.0 (printed_attribute e.1).required (printed_attribute e.1).ty
      (printed_entries es)

  -- the text of a type at an indentation, with a comma behind each member of a record
  abbrev pub printed_type_text : ℕ → «Type» N → List ℕ
  printed_type_text base ty = laid (type_pieces true base (printed_type ty))
