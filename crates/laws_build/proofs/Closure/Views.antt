-- Views of types as they are written.
use Rattle.std.proofs.Common.{◌≡◌, Option, sym, ap, ◌∙◌}
use Rattle.cedar_data.specs.Span.{Span}
use Rattle.cedar_identifiers.specs.declared.raw_name.RawName.{RawName}
use Rattle.cedar_identifiers.specs.declared.reference_type.ReferenceType.TheVariants.{Common, CommonOrEntity}
use Rattle.schema_json.specs.Shapes.{attributes_of, is_open, is_empty_type, is_empty_record}
use Rattle.schema_json.specs.Shapes.{is_empty_shape, is_empty_outside}
use Rattle.schema_json.specs.declared.types.Type.{«Type», Type-F, out-roll-Type}
use Rattle.schema_json.specs.declared.types.Type.TheVariants as shape
use Rattle.schema_json.specs.declared.types.TypeVariant.{TypeVariant, TypeVariant-F, out-TypeVariant}
use Rattle.schema_json.specs.declared.types.TypeVariant.{out-roll-TypeVariant}
use Rattle.schema_json.specs.declared.types.TypeVariant.TheVariants as variant
use Rattle.schema_json.specs.declared.types.RecordType.{RecordType}
use Rattle.schema_build_expand.specs.View.{set_layer, record_layer, reference_layer, shape_view, outer_view, view}
use Rattle.laws_build.proofs.Closure.Bare.{ShapeOf, alike_type}

pub shape_viewed : (v : TypeVariant RawName) (o : ShapeOf) (loc : Option Span) → out-TypeVariant RawName v ≡ o
    → view (shape.Variant v loc) ≡ shape_view o
shape_viewed v o loc e = ap view (sym (shape.rolls-Variant v loc))
    ∙ (ap outer_view (out-roll-Type RawName (Type-F.Variant v loc)) ∙ ap shape_view e)

pub reference_viewed : (t : «Type» RawName) (n : RawName) (loc : Option Span)
    → t ≡ shape.Variant (variant.EntityOrCommon n) loc → view t ≡ reference_layer CommonOrEntity n
reference_viewed t n loc e = ap view e ∙ shape_viewed (variant.EntityOrCommon n) (TypeVariant-F.EntityOrCommon n) loc
    (ap (out-TypeVariant RawName) (sym (variant.rolls-EntityOrCommon n))
    ∙ out-roll-TypeVariant RawName (TypeVariant-F.EntityOrCommon n))

pub common_viewed : (t : «Type» RawName) (n : RawName) (loc : Option Span) → t ≡ shape.CommonTypeRef n loc
    → view t ≡ reference_layer Common n
common_viewed t n loc e = ap view e ∙ ap view (sym (shape.rolls-CommonTypeRef n loc))
    ∙ ap outer_view (out-roll-Type RawName (Type-F.CommonTypeRef n loc))

pub set_viewed : (t x : «Type» RawName) (loc : Option Span) → t ≡ shape.Variant (variant.Set x) loc
    → view t ≡ set_layer x
set_viewed t x loc e = ap view e ∙ shape_viewed (variant.Set x) (TypeVariant-F.Set x) loc
    (ap (out-TypeVariant RawName) (sym (variant.rolls-Set x)) ∙ out-roll-TypeVariant RawName (TypeVariant-F.Set x))

record_out : (r : RecordType RawName) → out-TypeVariant RawName (variant.Record r) ≡ TypeVariant-F.Record r
record_out r = ap (out-TypeVariant RawName) (sym (variant.rolls-Record r))
    ∙ out-roll-TypeVariant RawName (TypeVariant-F.Record r)

pub record_viewed : (t : «Type» RawName) (r : RecordType RawName) (loc : Option Span)
    → t ≡ shape.Variant (variant.Record r) loc → view t ≡ record_layer (is_open r) (attributes_of r)
record_viewed t r loc e = ap view e ∙ shape_viewed (variant.Record r) (TypeVariant-F.Record r) loc (record_out r)

-- a record is empty as its type is
pub record_emptied : (t : «Type» RawName) (r : RecordType RawName) (loc : Option Span)
    → t ≡ shape.Variant (variant.Record r) loc → is_empty_type t ≡ is_empty_record r
record_emptied t r loc e =
    ap is_empty_type e ∙ ap is_empty_type (sym (shape.rolls-Variant (variant.Record r) loc))
    ∙ alike_type _ ∙ ap is_empty_outside (out-roll-Type RawName (Type-F.Variant (variant.Record r) loc))
    ∙ ap is_empty_shape (record_out r)
