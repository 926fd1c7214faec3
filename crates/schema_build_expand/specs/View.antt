-- A type by its outermost layer.
use Rattle.std.specs.Prelude.{ℕ, Bool, List}
use Rattle.cedar_identifiers.specs.declared.reference_type.ReferenceType.{ReferenceType}
use Rattle.cedar_identifiers.specs.declared.reference_type.ReferenceType.TheVariants.{Common, Entity, CommonOrEntity}
use Rattle.schema_json.specs.Shapes.{attributes_of, is_open}
use Rattle.schema_json.specs.declared.types.Type.{«Type», Type-F, out-Type}
use Rattle.schema_json.specs.declared.types.TypeVariant.{TypeVariant, TypeVariant-F, out-TypeVariant}
use Rattle.schema_json.specs.declared.types.RecordType.{RecordType}
use Rattle.schema_json.specs.declared.types.TypeOfAttribute.{TypeOfAttribute}

pub data View (N : Type 0) : Type 0 where
  boolean_layer : View N
  long_layer : View N
  string_layer : View N
  set_layer : «Type» N → View N
  -- whether it is open, and its attributes
  record_layer : Bool → List (List ℕ × TypeOfAttribute N) → View N
  -- what must be a common type, what must be an entity type, or what may be either
  reference_layer : ReferenceType → N → View N
  extension_layer : List ℕ → View N

module _ {N : Type 0} where
  abbrev pub shape_view : TypeVariant-F N («Type» N) (TypeVariant N) (RecordType N) (TypeOfAttribute N) → View N
  shape_view TypeVariant-F.String = string_layer
  shape_view TypeVariant-F.Long = long_layer
  shape_view TypeVariant-F.Boolean = boolean_layer
  shape_view (TypeVariant-F.Set element) = set_layer element
  shape_view (TypeVariant-F.Record r) = record_layer (is_open r) (attributes_of r)
  shape_view (TypeVariant-F.Entity name) = reference_layer Entity name
  shape_view (TypeVariant-F.EntityOrCommon name) = reference_layer CommonOrEntity name
  shape_view (TypeVariant-F.Extension name) = extension_layer name.id.text

  abbrev pub outer_view : Type-F N («Type» N) (TypeVariant N) (RecordType N) (TypeOfAttribute N) → View N
  outer_view (Type-F.Variant ty loc) = shape_view (out-TypeVariant N ty)
  outer_view (Type-F.CommonTypeRef name loc) = reference_layer Common name

  abbrev pub view : «Type» N → View N
  view t = outer_view (out-Type N t)
