-- What the types within a type say of it, from the innermost outward.
use Rattle.std.specs.Prelude.{ℕ, Bool, true, false, ◌||◌, List, [], ◌∷◌, map, Option, None, Some}
use Rattle.std.specs.List.{flat_map}
use Rattle.schema_json.specs.declared.types.Type.{«Type», Type-F, fold-Type}
use Rattle.schema_json.specs.declared.types.TypeVariant.{TypeVariant, TypeVariant-F, fold-TypeVariant}
use Rattle.schema_json.specs.declared.types.RecordType.{RecordType, RecordType-F, fold-RecordType}
use Rattle.schema_json.specs.declared.types.TypeOfAttribute.{TypeOfAttribute, TypeOfAttribute-F, fold-TypeOfAttribute}

-- whether one of two is an extension type, where both can be told
abbrev pub either : Option Bool → Option Bool → Option Bool
either (Some a) (Some b) = Some (a || b)
either _ _ = None

-- None where some answer is None, else whether some answer is yes
abbrev pub any_extension : List (Option Bool) → Option Bool
any_extension [] = Some false
any_extension (answer ∷ answers) = either answer (any_extension answers)

module _ {N : Type 0} where
  abbrev pub type_refs : Type-F N (List N) (List N) (List N) (List N) → List N
  type_refs (Type-F.Variant ty loc) = ty
  type_refs (Type-F.CommonTypeRef name loc) = name ∷ []

  abbrev pub variant_refs : TypeVariant-F N (List N) (List N) (List N) (List N) → List N
  variant_refs (TypeVariant-F.Set element) = element
  variant_refs (TypeVariant-F.Record record_refs) = record_refs
  variant_refs (TypeVariant-F.EntityOrCommon name) = name ∷ []
  variant_refs _ = []

  abbrev pub record_refs : RecordType-F N (List N) (List N) (List N) (List N) → List N
  record_refs r = flat_map (λ p. p.1) r.attributes

  abbrev pub attribute_refs : TypeOfAttribute-F N (List N) (List N) (List N) (List N) → List N
  attribute_refs a = a.ty

  -- the references that must or may mean a common type, in the order of the walk: attributes by their names
  abbrev pub references : «Type» N → List N
  references = fold-Type N (List N) (List N) (List N) (List N) type_refs variant_refs record_refs attribute_refs

  abbrev pub variant_references : TypeVariant N → List N
  variant_references = fold-TypeVariant N (List N) (List N) (List N) (List N) type_refs variant_refs record_refs
      attribute_refs

  abbrev pub record_references : RecordType N → List N
  record_references = fold-RecordType N (List N) (List N) (List N) (List N) type_refs variant_refs record_refs
      attribute_refs

  abbrev pub attribute_references : TypeOfAttribute N → List N
  attribute_references = fold-TypeOfAttribute N (List N) (List N) (List N) (List N) type_refs variant_refs record_refs
      attribute_refs

  -- the references of a record's entries
  abbrev pub entry_references : List (List ℕ × TypeOfAttribute N) → List N
  entry_references entries = flat_map (λ p. attribute_references p.1) entries

  abbrev pub type_answer : Type-F N (Option Bool) (Option Bool) (Option Bool) (Option Bool) → Option Bool
  type_answer (Type-F.Variant ty loc) = ty
  type_answer (Type-F.CommonTypeRef name loc) = None

  abbrev pub variant_answer : TypeVariant-F N (Option Bool) (Option Bool) (Option Bool) (Option Bool) → Option Bool
  variant_answer (TypeVariant-F.Set element) = element
  variant_answer (TypeVariant-F.Record answer) = answer
  variant_answer (TypeVariant-F.EntityOrCommon name) = None
  variant_answer (TypeVariant-F.Extension name) = Some true
  variant_answer _ = Some false

  abbrev pub record_answer : RecordType-F N (Option Bool) (Option Bool) (Option Bool) (Option Bool) → Option Bool
  record_answer r = any_extension (map (λ p. p.1) r.attributes)

  abbrev pub attribute_answer : TypeOfAttribute-F N (Option Bool) (Option Bool) (Option Bool) (Option Bool)
      → Option Bool
  attribute_answer a = a.ty

  -- whether the type is or holds an extension type, and None where a reference may stand for one
  abbrev pub is_extension : «Type» N → Option Bool
  is_extension = fold-Type N (Option Bool) (Option Bool) (Option Bool) (Option Bool) type_answer variant_answer
      record_answer attribute_answer

  -- whether what a type is made of is an extension type, where that can be told
  abbrev pub is_extension_variant : TypeVariant N → Option Bool
  is_extension_variant = fold-TypeVariant N (Option Bool) (Option Bool) (Option Bool) (Option Bool) type_answer
      variant_answer record_answer attribute_answer

  abbrev pub is_extension_record : RecordType N → Option Bool
  is_extension_record = fold-RecordType N (Option Bool) (Option Bool) (Option Bool) (Option Bool) type_answer
      variant_answer record_answer attribute_answer

  abbrev pub is_extension_attribute : TypeOfAttribute N → Option Bool
  is_extension_attribute = fold-TypeOfAttribute N (Option Bool) (Option Bool) (Option Bool) (Option Bool) type_answer
      variant_answer record_answer attribute_answer

  abbrev pub is_extension_among : List (List ℕ × TypeOfAttribute N) → Option Bool
  is_extension_among entries = any_extension (map (λ p. is_extension_attribute p.1) entries)
