-- What is written of types that are records, and of references to common types.
use Rattle.std.proofs.Common.{◌≡◌, ℕ, Bool, true, false, not, ◌&&◌, List, [], ◌∷◌, Option, refl, sym, ap, ◌∙◌}
use Rattle.cedar_data.specs.declared.loc.Loc.{Loc}
use Rattle.cedar_identifiers.specs.declared.raw_name.RawName.{RawName}
use Rattle.schema_json.specs.Shapes.{attributes_of, is_open, is_empty_record, is_empty_type}
use Rattle.schema_json.specs.Shapes.{has_none, is_empty_shape, is_empty_outside}
use Rattle.schema_json.specs.declared.types.Type.{«Type», Type-F, out-Type, fold-Type, map-Type, fold_out-Type}
use Rattle.schema_json.specs.declared.types.TypeVariant.{TypeVariant, TypeVariant-F, out-TypeVariant, fold-TypeVariant}
use Rattle.schema_json.specs.declared.types.TypeVariant.{map-TypeVariant, fold_out-TypeVariant}
use Rattle.schema_json.specs.declared.types.RecordType.{RecordType, RecordType-F, fold-RecordType}
use Rattle.schema_json.specs.declared.types.TypeOfAttribute.{TypeOfAttribute, TypeOfAttribute-F, fold-TypeOfAttribute}
use Rattle.laws_written.specs.Written.{WrittenType, WrittenAttributes, rec, no_more}
use Rattle.schema_print_text.specs.PrintedTypes.{printed_reference, printed_type, printed_record, printed_entries}
use Rattle.schema_print_text.specs.PrintedTypes.{type_layer, variant_layer, record_layer, attribute_layer}
use Rattle.schema_print_text.proofs.Layers.{record_out}
use Rattle.schema_print.specs.Collisions.{is_record_type}
use Rattle.laws_print.specs.Printed.Textual.{components_written, all_hold, closed_layer, closed_variant_layer}
use Rattle.laws_print.specs.Printed.Textual.{closed_record_layer, closed_attribute_layer, is_closed_type}
use Rattle.laws_print.specs.Printed.Textual.{is_closed_record}
use Rattle.laws_print.specs.Printed.Textual.{IsBareType}
use Rattle.laws_print.proofs.Printable.ClosedTypes.{closed_entries, record_told}

abbrev N : Type 0
N = RawName

abbrev pub Outer : Type 0
Outer = Type-F N («Type» N) (TypeVariant N) (RecordType N) (TypeOfAttribute N)

abbrev Inner : Type 0
Inner = TypeVariant-F N («Type» N) (TypeVariant N) (RecordType N) (TypeOfAttribute N)

abbrev Entry : Type 0
Entry = List ℕ × TypeOfAttribute N

-- what a fold makes of a type, by what the type is made of
module _ {A B C D : Type 0} (f : Type-F N A B C D → A) (g : TypeVariant-F N A B C D → B)
    (h : RecordType-F N A B C D → C) (k : TypeOfAttribute-F N A B C D → D) where
  abbrev on_type : «Type» N → A
  on_type = fold-Type N A B C D f g h k

  abbrev on_variant : TypeVariant N → B
  on_variant = fold-TypeVariant N A B C D f g h k

  abbrev on_record : RecordType N → C
  on_record = fold-RecordType N A B C D f g h k

  abbrev on_attribute : TypeOfAttribute N → D
  on_attribute = fold-TypeOfAttribute N A B C D f g h k

  abbrev outer_made : Outer → A
  outer_made o = f (map-Type N _ _ _ _ _ _ _ _ on_type on_variant on_record on_attribute o)

  abbrev inner_made : Inner → B
  inner_made o = g (map-TypeVariant N _ _ _ _ _ _ _ _ on_type on_variant on_record on_attribute o)

  made_outside : (s : «Type» N) (o : Outer) → out-Type N s ≡ o → on_type s ≡ outer_made o
  made_outside s o e = fold_out-Type N A B C D f g h k s ∙ ap outer_made e

  made_inside : (v : TypeVariant N) (o : Inner) → out-TypeVariant N v ≡ o → on_variant v ≡ inner_made o
  made_inside v o e = fold_out-TypeVariant N A B C D f g h k v ∙ ap inner_made e

abbrev pub written : «Type» N → WrittenType
written = printed_type components_written

-- the type is these records
record IsOfRecords (s : «Type» N) (r : RecordType N) : Type 0 where
  pub written_so : written s ≡ rec (printed_record components_written r)
  pub closed_so : is_closed_type s ≡ is_closed_record r

of_records : (s : «Type» N) (v : TypeVariant N) (loc : Option Loc) (r : RecordType N)
    → out-Type N s ≡ Type-F.Variant v loc → out-TypeVariant N v ≡ TypeVariant-F.Record r → IsOfRecords s r
of_records s v loc r e i = record {
  written_so = made_outside (type_layer components_written) (variant_layer components_written)
      (record_layer components_written) (attribute_layer components_written) s (Type-F.Variant v loc) e
      ∙ made_inside (type_layer components_written) (variant_layer components_written)
      (record_layer components_written) (attribute_layer components_written) v (TypeVariant-F.Record r) i;
  closed_so = made_outside closed_layer closed_variant_layer closed_record_layer closed_attribute_layer s
      (Type-F.Variant v loc) e
      ∙ made_inside closed_layer closed_variant_layer closed_record_layer closed_attribute_layer v
      (TypeVariant-F.Record r) i;
}

-- the type is a record, by its layers
abbrev record_inner : Inner → Bool
record_inner (TypeVariant-F.Record r) = true
record_inner _ = false

abbrev record_outer : Outer → Bool
record_outer (Type-F.Variant v loc) = record_inner (out-TypeVariant N v)
record_outer (Type-F.CommonTypeRef name loc) = false

record_is : (s : «Type» N) → is_record_type s ≡ record_outer (out-Type N s)
record_is s = refl

abbrev IsWrittenAs : «Type» N → Type 0
IsWrittenAs s = (xs : WrittenAttributes) × (written s ≡ rec xs)

inner_recorded : (s : «Type» N) (v : TypeVariant N) (loc : Option Loc) → out-Type N s ≡ Type-F.Variant v loc
    → (i : Inner) → out-TypeVariant N v ≡ i → record_inner i ≡ true → IsWrittenAs s
inner_recorded s v loc e (TypeVariant-F.Record r) f h =
    (printed_record components_written r, (of_records s v loc r e f).written_so)
inner_recorded s v loc e TypeVariant-F.String f h = absurd (cc)
inner_recorded s v loc e TypeVariant-F.Long f h = absurd (cc)
inner_recorded s v loc e TypeVariant-F.Boolean f h = absurd (cc)
inner_recorded s v loc e (TypeVariant-F.Set element) f h = absurd (cc)
inner_recorded s v loc e (TypeVariant-F.Entity name) f h = absurd (cc)
inner_recorded s v loc e (TypeVariant-F.EntityOrCommon name) f h = absurd (cc)
inner_recorded s v loc e (TypeVariant-F.Extension name) f h = absurd (cc)

outer_recorded : (s : «Type» N) (o : Outer) → out-Type N s ≡ o → record_outer o ≡ true → IsWrittenAs s
outer_recorded s (Type-F.Variant v loc) e h = inner_recorded s v loc e (out-TypeVariant N v) refl h
outer_recorded s (Type-F.CommonTypeRef name loc) e h = absurd (cc)

-- a record is written as one
pub written_as_record : (s : «Type» N) → is_record_type s ≡ true → IsWrittenAs s
written_as_record s h = outer_recorded s (out-Type N s) refl (sym (record_is s) ∙ h)

-- a reference to a common type is written as its name
pub written_as_name : (s : «Type» N) (name : N) (loc : Option Loc) → out-Type N s ≡ Type-F.CommonTypeRef name loc
    → written s ≡ printed_reference components_written name
written_as_name s name loc e =
    made_outside (type_layer components_written) (variant_layer components_written) (record_layer components_written)
    (attribute_layer components_written) s (Type-F.CommonTypeRef name loc) e

empty_is : (s : «Type» N) → is_empty_type s ≡ is_empty_outside (out-Type N s)
empty_is s = refl

empty_record_is : (r : RecordType N) → is_empty_record r ≡ (has_none (attributes_of r) && not (is_open r))
empty_record_is r = refl

none_open : (es : List Entry) (b : Bool) → (has_none es && not b) ≡ true
    → (not b && all_hold (closed_entries es)) ≡ true
none_open [] true h = h
none_open [] false h = refl
none_open (e ∷ es) b h = absurd (cc)

none_written : (es : List Entry) (b : Bool) → (has_none es && not b) ≡ true
    → printed_entries components_written es ≡ no_more
none_written [] b h = refl
none_written (e ∷ es) b h = absurd (cc)

record_bare : (s : «Type» N) (r : RecordType N) → IsOfRecords s r → is_empty_record r ≡ true → IsBareType s
record_bare s r is h =
    let none = sym (empty_record_is r) ∙ h in (
      is.closed_so ∙ (record_told r ∙ none_open (attributes_of r) (is_open r) none),
      is.written_so ∙ ap rec (record_out N components_written r ∙ none_written (attributes_of r) (is_open r) none),
    )

inner_bare : (s : «Type» N) (v : TypeVariant N) (loc : Option Loc) → out-Type N s ≡ Type-F.Variant v loc
    → (i : Inner) → out-TypeVariant N v ≡ i → is_empty_shape i ≡ true → IsBareType s
inner_bare s v loc e (TypeVariant-F.Record r) f h = record_bare s r (of_records s v loc r e f) h
inner_bare s v loc e TypeVariant-F.String f h = absurd (cc)
inner_bare s v loc e TypeVariant-F.Long f h = absurd (cc)
inner_bare s v loc e TypeVariant-F.Boolean f h = absurd (cc)
inner_bare s v loc e (TypeVariant-F.Set element) f h = absurd (cc)
inner_bare s v loc e (TypeVariant-F.Entity name) f h = absurd (cc)
inner_bare s v loc e (TypeVariant-F.EntityOrCommon name) f h = absurd (cc)
inner_bare s v loc e (TypeVariant-F.Extension name) f h = absurd (cc)

outer_bare : (s : «Type» N) (o : Outer) → out-Type N s ≡ o → is_empty_outside o ≡ true → IsBareType s
outer_bare s (Type-F.Variant v loc) e h = inner_bare s v loc e (out-TypeVariant N v) refl h
outer_bare s (Type-F.CommonTypeRef name loc) e h = absurd (cc)

-- a closed record without attributes is bare
pub empty_bare : (s : «Type» N) → is_empty_type s ≡ true → IsBareType s
empty_bare s h = outer_bare s (out-Type N s) refl (sym (empty_is s) ∙ h)
