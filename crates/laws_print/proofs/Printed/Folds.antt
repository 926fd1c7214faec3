-- What a fold makes of a type, by what the type holds; and that names are their bytes.
use Rattle.std.proofs.Common.{◌≡◌, List, [], ◌∷◌, refl, ap, ◌∙◌}
use Rattle.cedar_identifiers.specs.Names.{components_of, texts_of}
use Rattle.cedar_identifiers.specs.declared.id.Id.{Id}
use Rattle.cedar_identifiers.specs.declared.internal_name.InternalName.{InternalName}
use Rattle.cedar_identifiers.specs.declared.raw_name.RawName.{RawName}
use Rattle.cedar_identifiers.proofs.Ids.{id_bytes}
use Rattle.schema_json.specs.declared.types.Type.{«Type», Type-F, out-Type, fold-Type, map-Type, fold_out-Type}
use Rattle.schema_json.specs.declared.types.TypeVariant.{TypeVariant, TypeVariant-F, out-TypeVariant, fold-TypeVariant}
use Rattle.schema_json.specs.declared.types.TypeVariant.{map-TypeVariant, fold_out-TypeVariant}
use Rattle.schema_json.specs.declared.types.RecordType.{RecordType, RecordType-F, fold-RecordType}
use Rattle.schema_json.specs.declared.types.TypeOfAttribute.{TypeOfAttribute, TypeOfAttribute-F, fold-TypeOfAttribute}
use Rattle.schema_print_text.specs.PrintedTypes.{printed_name}

abbrev pub Outer : Type 0
Outer = Type-F RawName («Type» RawName) (TypeVariant RawName) (RecordType RawName) (TypeOfAttribute RawName)

abbrev pub Inner : Type 0
Inner = TypeVariant-F RawName («Type» RawName) (TypeVariant RawName) (RecordType RawName) (TypeOfAttribute RawName)

module _ {A B C D : Type 0} (f : Type-F RawName A B C D → A) (g : TypeVariant-F RawName A B C D → B)
    (h : RecordType-F RawName A B C D → C) (k : TypeOfAttribute-F RawName A B C D → D) where
  abbrev of_type : «Type» RawName → A
  of_type = fold-Type RawName A B C D f g h k

  abbrev of_variant : TypeVariant RawName → B
  of_variant = fold-TypeVariant RawName A B C D f g h k

  abbrev of_record : RecordType RawName → C
  of_record = fold-RecordType RawName A B C D f g h k

  abbrev of_attribute : TypeOfAttribute RawName → D
  of_attribute = fold-TypeOfAttribute RawName A B C D f g h k

  abbrev pub outer_made : Outer → A
  outer_made o = f (map-Type RawName _ _ _ _ _ _ _ _ of_type of_variant of_record of_attribute o)

  abbrev pub inner_made : Inner → B
  inner_made o = g (map-TypeVariant RawName _ _ _ _ _ _ _ _ of_type of_variant of_record of_attribute o)

  pub type_made : (s : «Type» RawName) (o : Outer) → out-Type RawName s ≡ o → of_type s ≡ outer_made o
  type_made s o e = fold_out-Type RawName A B C D f g h k s ∙ ap outer_made e

  pub variant_made : (v : TypeVariant RawName) (o : Inner) → out-TypeVariant RawName v ≡ o → of_variant v ≡ inner_made o
  variant_made v o e = fold_out-TypeVariant RawName A B C D f g h k v ∙ ap inner_made e

ids_bytes : (ids : List Id) → printed_name (texts_of ids) ≡ texts_of ids
ids_bytes [] = refl
ids_bytes (i ∷ ids) =
    let first = id_bytes i.text i.word in
    let others = ids_bytes ids in
    λ j. first j ∷ others j

-- the bytes of a name's components are their characters
pub name_bytes : (n : InternalName) → printed_name (components_of n) ≡ components_of n
name_bytes n = ids_bytes (n.first ∷ n.others)
