-- What types of the deprecated form must keep, layer by layer.
use Rattle.std.proofs.Common.{◌≡◌, ℕ, Bool, List, [], ap, sym, ◌∙◌}
use Rattle.schema_json.proofs.Walks.{values_walked}
use Rattle.schema_json_shapes.specs.declared.name_role.NameRole.TheVariants as role
use Rattle.schema_compat_types.specs.declared.types.SchemaType.{SchemaType, SchemaType-F, fold-roll-SchemaType}
use Rattle.schema_compat_types.specs.declared.types.SchemaType.TheVariants as written
use Rattle.schema_compat_types.specs.declared.types.SchemaTypeVariant.{SchemaTypeVariant, SchemaTypeVariant-F}
use Rattle.schema_compat_types.specs.declared.types.SchemaTypeVariant.{fold-roll-SchemaTypeVariant}
use Rattle.schema_compat_types.specs.declared.types.SchemaTypeVariant.TheVariants as shape
use Rattle.schema_compat_types.specs.declared.types.TypeOfAttribute.{TypeOfAttribute, out-TypeOfAttribute}
use Rattle.schema_compat_types.specs.declared.types.TypeOfAttribute.{fold_out-TypeOfAttribute}
use Rattle.schema_compat_convert.specs.Demands.{Asked, asks_name, type_layer, shape_layer, attribute_layer, asks_type}
use Rattle.schema_compat_convert.specs.Demands.{asks_shape}
use Rattle.schema_compat_convert.specs.Demands.{asks_attribute, asks_attributes}

pub shape_asked : (v : SchemaTypeVariant) → asks_type (written.Variant v) ≡ asks_shape v
shape_asked v =
    ap asks_type (sym (written.rolls-Variant v))
    ∙ fold-roll-SchemaType Asked Asked Asked type_layer shape_layer attribute_layer (SchemaType-F.Variant v)

pub reference_asked : (text : List ℕ) → asks_type (written.TypeDef text) ≡ asks_name role.CommonType text
reference_asked text =
    ap asks_type (sym (written.rolls-TypeDef text))
    ∙ fold-roll-SchemaType Asked Asked Asked type_layer shape_layer attribute_layer (SchemaType-F.TypeDef text)

pub set_asked : (s : SchemaType) → asks_shape (shape.Set s) ≡ asks_type s
set_asked s =
    ap asks_shape (sym (shape.rolls-Set s))
    ∙ fold-roll-SchemaTypeVariant Asked Asked Asked type_layer shape_layer attribute_layer (SchemaTypeVariant-F.Set s)

pub record_asked : (es : List (List ℕ × TypeOfAttribute)) (more : Bool)
    → asks_shape (shape.Record es more) ≡ asks_attributes es
record_asked es more =
    ap asks_shape (sym (shape.rolls-Record es more))
    ∙ fold-roll-SchemaTypeVariant Asked Asked Asked type_layer shape_layer attribute_layer
    (SchemaTypeVariant-F.Record es more) ∙ values_walked asks_attribute es

pub entity_asked : (text : List ℕ) → asks_shape (shape.Entity text) ≡ asks_name role.EntityType text
entity_asked text =
    ap asks_shape (sym (shape.rolls-Entity text))
    ∙ fold-roll-SchemaTypeVariant Asked Asked Asked type_layer shape_layer attribute_layer
    (SchemaTypeVariant-F.Entity text)

pub extension_asked : (text : List ℕ) → asks_shape (shape.Extension text) ≡ asks_name role.ExtensionType text
extension_asked text =
    ap asks_shape (sym (shape.rolls-Extension text))
    ∙ fold-roll-SchemaTypeVariant Asked Asked Asked type_layer shape_layer attribute_layer
    (SchemaTypeVariant-F.Extension text)

pub attribute_asked : (a : TypeOfAttribute) → asks_attribute a ≡ asks_type (out-TypeOfAttribute a).ty
attribute_asked a = fold_out-TypeOfAttribute Asked Asked Asked type_layer shape_layer attribute_layer a

pub string_asked : asks_shape shape.String ≡ []
string_asked =
    ap asks_shape (sym shape.rolls-String)
    ∙ fold-roll-SchemaTypeVariant Asked Asked Asked type_layer shape_layer attribute_layer SchemaTypeVariant-F.String

pub long_asked : asks_shape shape.Long ≡ []
long_asked =
    ap asks_shape (sym shape.rolls-Long)
    ∙ fold-roll-SchemaTypeVariant Asked Asked Asked type_layer shape_layer attribute_layer SchemaTypeVariant-F.Long

pub boolean_asked : asks_shape shape.Boolean ≡ []
boolean_asked =
    ap asks_shape (sym shape.rolls-Boolean)
    ∙ fold-roll-SchemaTypeVariant Asked Asked Asked type_layer shape_layer attribute_layer SchemaTypeVariant-F.Boolean
