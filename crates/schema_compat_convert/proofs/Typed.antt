-- What a type of the deprecated form becomes, and what of it fails, by its outermost layer.
use Rattle.std.proofs.Common.{◌≡◌, ℕ, Bool, List, [], ◌∷◌, None, sym, subst}
use Rattle.std.specs.List.Sorted.{IsStrictlySortedBy}
use Rattle.std.specs.Map.{keys_of}
use Rattle.std.specs.Str.{encode_utf8_all}
use Rattle.cedar_data.specs.Text.{text_cmp}
use Rattle.cedar_identifiers.specs.declared.raw_name.RawName.{RawName}
use Rattle.cedar_identifiers.specs.declared.unreserved_id.UnreservedId.{UnreservedId}
use Rattle.schema_json.specs.declared.types.Type.{«Type»}
use Rattle.schema_json.specs.declared.types.Type.TheVariants.{CommonTypeRef}
use Rattle.schema_json.specs.declared.types.TypeVariant.{TypeVariant}
use Rattle.schema_json.specs.declared.types.TypeVariant.TheVariants as variant
use Rattle.schema_json.specs.declared.types.TypeOfAttribute.{TypeOfAttribute}
use Rattle.schema_json_shapes.specs.declared.name_role.NameRole.TheVariants as role
use Rattle.schema_json_shapes.specs.declared.shape_fault.ShapeFault.{ShapeFault}
use Rattle.schema_json_shapes.specs.Walk.{is_name, AllMet}
use Rattle.schema_json_shapes.specs.Reads.{IsDemandFault}
use Rattle.schema_json_shapes.specs.Said.{IsRawName, IsId, plain}
use Rattle.schema_compat_types.specs.declared.types.SchemaType.{SchemaType}
use Rattle.schema_compat_types.specs.declared.types.SchemaType.TheVariants as written
use Rattle.schema_compat_types.specs.declared.types.SchemaTypeVariant.{SchemaTypeVariant}
use Rattle.schema_compat_types.specs.declared.types.SchemaTypeVariant.TheVariants as shape
use Rattle.schema_compat_types.specs.declared.types.TypeOfAttribute.{TypeOfAttribute as OldAttribute}
use Rattle.schema_compat_convert.specs.Demands.{asks_type, asks_shape, asks_attributes}
use Rattle.schema_compat_convert.specs.Converted.{record_shape, TypeBecomes, of_shape, of_reference, ShapeBecomes}
use Rattle.schema_compat_convert.specs.Converted.{of_set}
use Rattle.schema_compat_convert.specs.Converted.{of_string, of_long, of_boolean}
use Rattle.schema_compat_convert.specs.Converted.{of_record, of_entity, of_extension, AttributesBecome}
use Rattle.schema_compat_convert.proofs.Layers.{shape_asked, reference_asked, set_asked, record_asked, entity_asked}
use Rattle.schema_compat_convert.proofs.Layers.{extension_asked, string_asked, long_asked, boolean_asked}

-- ---- types

pub shape_made : (ty : SchemaType) (v : SchemaTypeVariant) (w : TypeVariant RawName) → ty ≡ written.Variant v
    → AllMet (asks_shape v) × ShapeBecomes v w → AllMet (asks_type ty) × TypeBecomes ty (plain w)
shape_made ty v w is (met, h) = subst (λ s. AllMet (asks_type s) × TypeBecomes s (plain w)) (sym is)
    (subst AllMet (sym (shape_asked v)) met, of_shape v w h)

pub reference_made : (ty : SchemaType) (text bytes : List ℕ) (n : RawName) → ty ≡ written.TypeDef text
    → bytes ≡ encode_utf8_all text → AllMet (is_name role.CommonType bytes ∷ []) × IsRawName bytes n
    → AllMet (asks_type ty) × TypeBecomes ty (CommonTypeRef n None)
reference_made ty text bytes n is same h =
    let (met, names) = subst (λ b. AllMet (is_name role.CommonType b ∷ []) × IsRawName b n) same h in
    subst (λ s. AllMet (asks_type s) × TypeBecomes s (CommonTypeRef n None)) (sym is)
    (subst AllMet (sym (reference_asked text)) met, of_reference text n names)

-- ---- shapes

pub string_made : (v : SchemaTypeVariant) → v ≡ shape.String → AllMet (asks_shape v) × ShapeBecomes v variant.String
string_made v is = subst (λ x. AllMet (asks_shape x) × ShapeBecomes x variant.String) (sym is)
    (subst AllMet (sym string_asked) tt, of_string)

pub long_made : (v : SchemaTypeVariant) → v ≡ shape.Long → AllMet (asks_shape v) × ShapeBecomes v variant.Long
long_made v is = subst (λ x. AllMet (asks_shape x) × ShapeBecomes x variant.Long) (sym is)
    (subst AllMet (sym long_asked) tt, of_long)

pub boolean_made : (v : SchemaTypeVariant) → v ≡ shape.Boolean
    → AllMet (asks_shape v) × ShapeBecomes v variant.Boolean
boolean_made v is = subst (λ x. AllMet (asks_shape x) × ShapeBecomes x variant.Boolean) (sym is)
    (subst AllMet (sym boolean_asked) tt, of_boolean)

pub set_made : (v : SchemaTypeVariant) (s : SchemaType) (t : «Type» RawName) → v ≡ shape.Set s
    → AllMet (asks_type s) × TypeBecomes s t → AllMet (asks_shape v) × ShapeBecomes v (variant.Set t)
set_made v s t is (met, h) = subst (λ x. AllMet (asks_shape x) × ShapeBecomes x (variant.Set t)) (sym is)
    (subst AllMet (sym (set_asked s)) met, of_set s t h)

pub record_made : (v : SchemaTypeVariant) (es : List (List ℕ × OldAttribute)) (is_open : Bool)
    (fs : List (List ℕ × TypeOfAttribute RawName)) → v ≡ shape.Record es is_open
    → IsStrictlySortedBy text_cmp (keys_of es) → AllMet (asks_attributes es) × AttributesBecome es fs
    → AllMet (asks_shape v) × ShapeBecomes v (record_shape fs is_open)
record_made v es is_open fs is up (met, h) =
    subst (λ x. AllMet (asks_shape x) × ShapeBecomes x (record_shape fs is_open)) (sym is)
    (subst AllMet (sym (record_asked es is_open)) met, of_record es fs is_open up h)

pub record_fails : (v : SchemaTypeVariant) (es : List (List ℕ × OldAttribute)) (is_open : Bool) (e : ShapeFault)
    → v ≡ shape.Record es is_open → IsDemandFault (asks_attributes es) e → IsDemandFault (asks_shape v) e
record_fails v es is_open e is h = subst (λ x. IsDemandFault (asks_shape x) e) (sym is)
    (subst (λ ds. IsDemandFault ds e) (sym (record_asked es is_open)) h)

pub entity_made : (v : SchemaTypeVariant) (text bytes : List ℕ) (n : RawName) → v ≡ shape.Entity text
    → bytes ≡ encode_utf8_all text → AllMet (is_name role.EntityType bytes ∷ []) × IsRawName bytes n
    → AllMet (asks_shape v) × ShapeBecomes v (variant.Entity n)
entity_made v text bytes n is same h =
    let (met, names) = subst (λ b. AllMet (is_name role.EntityType b ∷ []) × IsRawName b n) same h in
    subst (λ x. AllMet (asks_shape x) × ShapeBecomes x (variant.Entity n)) (sym is)
    (subst AllMet (sym (entity_asked text)) met, of_entity text n names)

pub extension_made : (v : SchemaTypeVariant) (text bytes : List ℕ) (id : UnreservedId) → v ≡ shape.Extension text
    → bytes ≡ encode_utf8_all text → AllMet (is_name role.ExtensionType bytes ∷ []) × IsId bytes id
    → AllMet (asks_shape v) × ShapeBecomes v (variant.Extension id)
extension_made v text bytes id is same h =
    let (met, names) = subst (λ b. AllMet (is_name role.ExtensionType b ∷ []) × IsId b id) same h in
    subst (λ x. AllMet (asks_shape x) × ShapeBecomes x (variant.Extension id)) (sym is)
    (subst AllMet (sym (extension_asked text)) met, of_extension text id names)
