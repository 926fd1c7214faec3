-- What is written of each kind of type, one equation a layer.
use Rattle.std.proofs.Common.{◌≡◌, ℕ, suc, ◌==◌, Bool, true, false, length, List, [], ◌∷◌, map, codes, refl, ap, sym}
use Rattle.std.proofs.Common.{◌∙◌, Option}
use Rattle.std.proofs.Common.{arith}
use Rattle.std.proofs.lemmas.Bool.{ne_eqb}
use Rattle.cedar_data.specs.declared.loc.Loc.{Loc}
use Rattle.schema_syntax_tokens.specs.Laid.{laid}
use Rattle.cedar_identifiers.specs.declared.unreserved_id.UnreservedId.{UnreservedId}
use Rattle.schema_json.specs.declared.types.Type.{«Type»}
use Rattle.schema_json.specs.declared.types.Type.TheVariants.{Variant, CommonTypeRef}
use Rattle.schema_json.specs.declared.types.TypeVariant.{TypeVariant}
use Rattle.schema_json.specs.declared.types.TypeVariant.TheVariants.{Set, Record, Entity, EntityOrCommon, Extension}
use Rattle.schema_json.specs.declared.types.TypeVariant.TheVariants.{String, Long, Boolean}
use Rattle.schema_json.specs.declared.types.RecordType.{RecordType, out-RecordType, fold_out-RecordType}
use Rattle.schema_json.specs.declared.types.TypeOfAttribute.{TypeOfAttribute, out-TypeOfAttribute}
use Rattle.schema_json.specs.declared.types.TypeOfAttribute.{fold_out-TypeOfAttribute}
use Rattle.schema_json.proofs.Layers.{variant_made, reference_made, string_made, long_made, boolean_made, set_made}
use Rattle.schema_json.proofs.Layers.{record_made, entity_made, either_made, extension_made}
use Rattle.laws_written.specs.Written.{WrittenType, WrittenAttributes, path, set, rec, attribute}
use Rattle.laws_written.specs.Meant.{under_cedar}
use Rattle.laws_written.specs.Printed.{path_pieces, type_pieces}
use Rattle.schema_print_text.specs.PrintedTypes.{is_bare_record, PrintedAttribute, printed_name, printed_attributes}
use Rattle.schema_print_text.specs.PrintedTypes.{type_layer, variant_layer, record_layer, attribute_layer}
use Rattle.schema_print_text.specs.PrintedTypes.{printed_type}
use Rattle.schema_print_text.specs.PrintedTypes.{printed_variant, printed_record, printed_attribute, printed_entries}
use Rattle.schema_print_text.specs.PrintedTypes.{printed_type_text}

nonzero : (n : ℕ) → (suc n == 0) ≡ false
nonzero n = ne_eqb (suc n) 0 (λ e. omega arith)

module _ (N : Type 0) (names : N → List (List ℕ)) where
  entries_made : (es : List (List ℕ × TypeOfAttribute N))
      → printed_attributes (map (λ p. let q : List ℕ × PrintedAttribute = (p.0, printed_attribute names p.1) in q) es)
      ≡ printed_entries names es
  entries_made [] = refl
  entries_made (e ∷ es) =
      let a = printed_attribute names e.1 in
      ap (λ xs. attribute a.notes e.0 a.required a.ty xs) (entries_made es)

  pub record_out : (r : RecordType N)
      → printed_record names r ≡ printed_entries names (out-RecordType N r).attributes
  record_out r =
      fold_out-RecordType N WrittenType WrittenType WrittenAttributes PrintedAttribute (type_layer names)
      (variant_layer names) (record_layer names) (attribute_layer names) r
      ∙ entries_made (out-RecordType N r).attributes

  pub attribute_out : (a : TypeOfAttribute N)
      → printed_attribute names a ≡ record {
        notes = (out-TypeOfAttribute N a).annotations.0;
        required = (out-TypeOfAttribute N a).required;
        ty = printed_type names (out-TypeOfAttribute N a).ty;
      }
  attribute_out a =
      fold_out-TypeOfAttribute N WrittenType WrittenType WrittenAttributes PrintedAttribute (type_layer names)
      (variant_layer names) (record_layer names) (attribute_layer names) a

  pub type_variant : (ty : TypeVariant N) (loc : Option Loc)
      → printed_type names (Variant ty loc) ≡ printed_variant names ty
  type_variant ty loc =
      variant_made N (type_layer names) (variant_layer names) (record_layer names) (attribute_layer names) ty loc

  pub type_common : (n : N) (loc : Option Loc)
      → printed_type names (CommonTypeRef n loc) ≡ path (printed_name (names n))
  type_common n loc =
      reference_made N (type_layer names) (variant_layer names) (record_layer names) (attribute_layer names) n loc

  pub variant_set : (t : «Type» N) → printed_variant names (Set t) ≡ set (printed_type names t)
  variant_set t = set_made N (type_layer names) (variant_layer names) (record_layer names) (attribute_layer names) t

  pub variant_record : (r : RecordType N)
      → printed_variant names (Record r) ≡ rec (printed_entries names (out-RecordType N r).attributes)
  variant_record r =
      record_made N (type_layer names) (variant_layer names) (record_layer names) (attribute_layer names) r
      ∙ ap rec (record_out r)

  pub variant_entity : (n : N) → printed_variant names (Entity n) ≡ path (printed_name (names n))
  variant_entity n =
      entity_made N (type_layer names) (variant_layer names) (record_layer names) (attribute_layer names) n

  pub variant_either : (n : N) → printed_variant names (EntityOrCommon n) ≡ path (printed_name (names n))
  variant_either n =
      either_made N (type_layer names) (variant_layer names) (record_layer names) (attribute_layer names) n

  pub variant_extension : (e : UnreservedId) → printed_variant names (Extension e) ≡ under_cedar e.id.text
  variant_extension e =
      extension_made N (type_layer names) (variant_layer names) (record_layer names) (attribute_layer names) e

  pub variant_string : printed_variant names String ≡ under_cedar (codes "String")
  variant_string = string_made N (type_layer names) (variant_layer names) (record_layer names) (attribute_layer names)

  pub variant_long : printed_variant names Long ≡ under_cedar (codes "Long")
  variant_long = long_made N (type_layer names) (variant_layer names) (record_layer names) (attribute_layer names)

  pub variant_boolean : printed_variant names Boolean ≡ under_cedar (codes "Bool")
  variant_boolean =
      boolean_made N (type_layer names) (variant_layer names) (record_layer names) (attribute_layer names)

  -- the text of each kind of type
  pub variant_shown : (base : ℕ) (t : «Type» N) (v : TypeVariant N) (loc : Option Loc) → t ≡ Variant v loc
      → laid (type_pieces true base (printed_variant names v)) ≡ printed_type_text names base t
  variant_shown base t v loc e =
      ap (λ w. laid (type_pieces true base w)) (sym (ap (printed_type names) e ∙ type_variant v loc))

  pub common_shown : (base : ℕ) (t : «Type» N) (n : N) (loc : Option Loc) → t ≡ CommonTypeRef n loc
      → laid (path_pieces (printed_name (names n))) ≡ printed_type_text names base t
  common_shown base t n loc e = ap (λ w. laid (type_pieces true base w))
      (sym (ap (printed_type names) e ∙ type_common n loc))

  pub shown : (base : ℕ) (t v : TypeVariant N) (w : WrittenType) (text : List ℕ) → t ≡ v → printed_variant names v ≡ w
      → text ≡ laid (type_pieces true base w) → text ≡ laid (type_pieces true base (printed_variant names t))
  shown base t v w text e f g = g ∙ ap (λ x. laid (type_pieces true base x)) (sym (ap (printed_variant names) e ∙ f))

  -- whether what stands here is a record without attributes
  pub bare_variant : (t : «Type» N) (v : TypeVariant N) (loc : Option Loc) → t ≡ Variant v loc
      → is_bare_record (printed_variant names v) ≡ is_bare_record (printed_type names t)
  bare_variant t v loc e = ap is_bare_record (sym (ap (printed_type names) e ∙ type_variant v loc))

  pub bare_common : (t : «Type» N) (n : N) (loc : Option Loc) → t ≡ CommonTypeRef n loc
      → false ≡ is_bare_record (printed_type names t)
  bare_common t n loc e = ap is_bare_record (sym (ap (printed_type names) e ∙ type_common n loc))

  pub bare : (t v : TypeVariant N) (w : WrittenType) (answer : Bool) → t ≡ v → printed_variant names v ≡ w
      → answer ≡ is_bare_record w → answer ≡ is_bare_record (printed_variant names t)
  bare t v w answer e f g = g ∙ ap is_bare_record (sym (ap (printed_variant names) e ∙ f))

  pub entries_bare : (es : List (List ℕ × TypeOfAttribute N))
      → (length es == 0) ≡ is_bare_record (rec (printed_entries names es))
  entries_bare [] = refl
  entries_bare (e ∷ es) = nonzero (length es)
