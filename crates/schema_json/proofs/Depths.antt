-- A part of a type is less deep than the type.
use Rattle.std.proofs.Common.{◌≡◌, ◌<◌, Option, arith, subst, sym}
use Rattle.std.specs.Map.{values_of}
use denote.Param.Weighed.{most}
use Rattle.cedar_data.specs.declared.loc.Loc.{Loc as Span}
use Rattle.schema_json.specs.declared.types.Type.{«Type», size-Type}
use Rattle.schema_json.specs.declared.types.Type.TheVariants.{Variant}
use Rattle.schema_json.specs.declared.types.Type.TheViews.{sized-Variant, sized-Set, sized-Record}
use Rattle.schema_json.specs.declared.types.TypeVariant.{TypeVariant, size-TypeVariant}
use Rattle.schema_json.specs.declared.types.TypeVariant.TheVariants.{Set, Record}
use Rattle.schema_json.specs.declared.types.RecordType.{RecordType, size-RecordType, size_is-RecordType, out-RecordType}
use Rattle.schema_json.specs.declared.types.TypeOfAttribute.{TypeOfAttribute, size-TypeOfAttribute}
use Rattle.schema_json.specs.declared.types.TypeOfAttribute.{size_is-TypeOfAttribute}
use Rattle.schema_json.specs.declared.types.TypeOfAttribute.{out-TypeOfAttribute}

pub variant_below : (N : Type 0) (ty : TypeVariant N) (loc : Option Span) (t : «Type» N) → t ≡ Variant ty loc
    → size-TypeVariant N ty < size-Type N t
variant_below N ty loc t e = subst (λ x. size-TypeVariant N ty < size-Type N x) (sym e)
    (omega (arith, sized-Variant N ty loc))

pub element_below : (N : Type 0) (element : «Type» N) (v : TypeVariant N) → v ≡ Set element
    → size-Type N element < size-TypeVariant N v
element_below N element v e = subst (λ x. size-Type N element < size-TypeVariant N x) (sym e)
    (omega (arith, sized-Set N element))

pub record_below : (N : Type 0) (fields : RecordType N) (v : TypeVariant N) → v ≡ Record fields
    → size-RecordType N fields < size-TypeVariant N v
record_below N fields v e = subst (λ x. size-RecordType N fields < size-TypeVariant N x) (sym e)
    (omega (arith, sized-Record N fields))

pub entries_below : (N : Type 0) (fields : RecordType N)
    → most (size-TypeOfAttribute N) (values_of (out-RecordType N fields).attributes) < size-RecordType N fields
entries_below N fields = omega (arith, size_is-RecordType N fields)

pub entries_in_variant : (N : Type 0) (fields : RecordType N) (v : TypeVariant N) → v ≡ Record fields
    → most (size-TypeOfAttribute N) (values_of (out-RecordType N fields).attributes) < size-TypeVariant N v
entries_in_variant N fields v e = omega (arith, entries_below N fields, record_below N fields v e)

pub type_below : (N : Type 0) (attribute : TypeOfAttribute N)
    → size-Type N (out-TypeOfAttribute N attribute).ty < size-TypeOfAttribute N attribute
type_below N attribute = omega (arith, size_is-TypeOfAttribute N attribute)
