-- What types are with every place erased, and when two are then the same.
use Rattle.std.proofs.Common.{◌≡◌, Bool, List, ◌∷◌, map, Option, None, sym, ap, ◌∙◌}
use Rattle.cedar_data.specs.Span.{Span}
use Rattle.cedar_identifiers.specs.Names.{components_of}
use Rattle.cedar_identifiers.specs.declared.annotations.Annotations.{Annotations}
use Rattle.cedar_identifiers.specs.declared.raw_name.RawName.{RawName}
use Rattle.cedar_identifiers.specs.declared.unreserved_id.UnreservedId.{UnreservedId}
use Rattle.cedar_identifiers.proofs.Same.{ids_same}
use Rattle.schema_syntax_reader.specs.Leaves.{Notes}
use Rattle.schema_json.specs.declared.types.Type.{«Type» as Shape}
use Rattle.schema_json.specs.declared.types.Type.TheVariants as shape
use Rattle.schema_json.specs.declared.types.TypeVariant.{TypeVariant}
use Rattle.schema_json.specs.declared.types.TypeVariant.TheVariants as variant
use Rattle.schema_json.specs.declared.types.RecordType.{RecordType, roll-RecordType, out-RecordType}
use Rattle.schema_json.specs.declared.types.RecordType.{fold_out-RecordType}
use Rattle.schema_json.specs.declared.types.TypeOfAttribute.{TypeOfAttribute, roll-TypeOfAttribute, out-TypeOfAttribute}
use Rattle.schema_json.specs.declared.types.TypeOfAttribute.{fold_out-TypeOfAttribute}
use Rattle.schema_json.proofs.Layers.{variant_made, reference_made, string_made, long_made, boolean_made, set_made}
use Rattle.schema_json.proofs.Layers.{record_made, entity_made, either_made, extension_made}
use Rattle.schema_convert_types.specs.Types.{AttributeEntry}
use Rattle.laws_translate.specs.Bare.{bare_name, bare_step, bare_variant, bare, bare_of_variant, bare_of_record}
use Rattle.laws_translate.specs.Bare.{bare_of_attribute}

pub variant_bare : (v : TypeVariant RawName) (loc : Option Span)
    → bare (shape.Variant v loc) ≡ shape.Variant (bare_of_variant v) None
variant_bare v loc =
    variant_made RawName bare_step bare_variant (roll-RecordType RawName) (roll-TypeOfAttribute RawName) v loc
    ∙ shape.rolls-Variant (bare_of_variant v) None

-- a type of which this is without places
pub shape_bare : (v w : TypeVariant RawName) → bare_of_variant v ≡ w → (loc : Option Span)
    → bare (shape.Variant v loc) ≡ shape.Variant w None
shape_bare v w e loc = variant_bare v loc ∙ ap (λ (x : TypeVariant RawName). shape.Variant x None) e

pub reference_bare : (n : RawName) (loc : Option Span)
    → bare (shape.CommonTypeRef n loc) ≡ shape.CommonTypeRef (bare_name n) None
reference_bare n loc =
    reference_made RawName bare_step bare_variant (roll-RecordType RawName) (roll-TypeOfAttribute RawName) n loc
    ∙ shape.rolls-CommonTypeRef (bare_name n) None

pub string_bare : bare_of_variant variant.String ≡ variant.String
string_bare =
    string_made RawName bare_step bare_variant (roll-RecordType RawName) (roll-TypeOfAttribute RawName)
    ∙ variant.rolls-String

pub long_bare : bare_of_variant variant.Long ≡ variant.Long
long_bare =
    long_made RawName bare_step bare_variant (roll-RecordType RawName) (roll-TypeOfAttribute RawName)
    ∙ variant.rolls-Long

pub boolean_bare : bare_of_variant variant.Boolean ≡ variant.Boolean
boolean_bare =
    boolean_made RawName bare_step bare_variant (roll-RecordType RawName) (roll-TypeOfAttribute RawName)
    ∙ variant.rolls-Boolean

pub set_bare : (s : Shape RawName) → bare_of_variant (variant.Set s) ≡ variant.Set (bare s)
set_bare s =
    set_made RawName bare_step bare_variant (roll-RecordType RawName) (roll-TypeOfAttribute RawName) s
    ∙ variant.rolls-Set (bare s)

pub record_bare : (r : RecordType RawName) → bare_of_variant (variant.Record r) ≡ variant.Record (bare_of_record r)
record_bare r =
    record_made RawName bare_step bare_variant (roll-RecordType RawName) (roll-TypeOfAttribute RawName) r
    ∙ variant.rolls-Record (bare_of_record r)

pub entity_bare : (n : RawName) → bare_of_variant (variant.Entity n) ≡ variant.Entity (bare_name n)
entity_bare n =
    entity_made RawName bare_step bare_variant (roll-RecordType RawName) (roll-TypeOfAttribute RawName) n
    ∙ variant.rolls-Entity (bare_name n)

pub either_bare : (n : RawName)
    → bare_of_variant (variant.EntityOrCommon n) ≡ variant.EntityOrCommon (bare_name n)
either_bare n =
    either_made RawName bare_step bare_variant (roll-RecordType RawName) (roll-TypeOfAttribute RawName) n
    ∙ variant.rolls-EntityOrCommon (bare_name n)

pub extension_bare : (id : UnreservedId) → bare_of_variant (variant.Extension id) ≡ variant.Extension id
extension_bare id =
    extension_made RawName bare_step bare_variant (roll-RecordType RawName) (roll-TypeOfAttribute RawName) id
    ∙ variant.rolls-Extension id

abbrev pub bare_entry : AttributeEntry → AttributeEntry
bare_entry p = (p.0, bare_of_attribute p.1)

abbrev pub record_from : List AttributeEntry → Bool → RecordType RawName
record_from es open' = roll-RecordType RawName (record { attributes = es; additional_attributes = open' })

pub attributes_bare : (r : RecordType RawName) → bare_of_record r ≡ record_from
    (map bare_entry (out-RecordType RawName r).attributes) (out-RecordType RawName r).additional_attributes
attributes_bare r = fold_out-RecordType RawName (Shape RawName) (TypeVariant RawName) (RecordType RawName)
    (TypeOfAttribute RawName) bare_step bare_variant (roll-RecordType RawName) (roll-TypeOfAttribute RawName) r

abbrev pub attribute_from : Shape RawName → Annotations → Bool → TypeOfAttribute RawName
attribute_from t notes r = roll-TypeOfAttribute RawName (record { ty = t; annotations = notes; required = r })

pub attribute_bare : (a : TypeOfAttribute RawName)
    → bare_of_attribute a ≡ attribute_from (bare (out-TypeOfAttribute RawName a).ty)
    (out-TypeOfAttribute RawName a).annotations (out-TypeOfAttribute RawName a).required
attribute_bare a = fold_out-TypeOfAttribute RawName (Shape RawName) (TypeVariant RawName) (RecordType RawName)
    (TypeOfAttribute RawName) bare_step bare_variant (roll-RecordType RawName) (roll-TypeOfAttribute RawName) a

-- names go by their components
pub name_same : (n m : RawName) → components_of n.name ≡ components_of m.name → bare_name n ≡ bare_name m
name_same n m e =
    let all = ids_same (n.name.first ∷ n.name.others) (m.name.first ∷ m.name.others) e in
    let first : n.name.first ≡ m.name.first = cc in
    let others : n.name.others ≡ m.name.others = cc in
    λ i. record { name = record { first = first i; others = others i; loc = None } }

pub record_at : (r : RecordType RawName) (loc : Option Span)
    → bare (shape.Variant (variant.Record r) loc) ≡ shape.Variant
    (variant.Record
    (record_from (map bare_entry (out-RecordType RawName r).attributes)
    (out-RecordType RawName r).additional_attributes)) None
record_at r loc = shape_bare _ _ (record_bare r ∙ ap variant.Record (attributes_bare r)) loc

pub attribute_same : (a b : TypeOfAttribute RawName)
    → bare (out-TypeOfAttribute RawName a).ty ≡ bare (out-TypeOfAttribute RawName b).ty
    → (out-TypeOfAttribute RawName a).annotations ≡ (out-TypeOfAttribute RawName b).annotations
    → (out-TypeOfAttribute RawName a).required ≡ (out-TypeOfAttribute RawName b).required
    → bare_of_attribute a ≡ bare_of_attribute b
attribute_same a b t n r = attribute_bare a ∙ ((λ i. attribute_from (t i) (n i) (r i)) ∙ sym (attribute_bare b))

pub notes_same : (a b : Annotations) (ns : Notes) → a.0 ≡ ns → b.0 ≡ ns → a ≡ b
notes_same a b ns e f = let both = e ∙ sym f in λ i. record { 0 = both i }
