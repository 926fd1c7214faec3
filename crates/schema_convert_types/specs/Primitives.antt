-- The types that every schema has, in a fragment.
use Rattle.schema_syntax_tree.specs.declared.primitive_type.PrimitiveType.{PrimitiveType}
use Rattle.schema_syntax_tree.specs.declared.primitive_type.PrimitiveType.TheVariants as primitive
use Rattle.schema_json.specs.declared.types.TypeVariant.{TypeVariant}
use Rattle.schema_json.specs.declared.types.TypeVariant.TheVariants.{Long, String, Boolean}

-- the shape that stands for a primitive type
abbrev pub primitive_variant : {N : Type 0} → PrimitiveType → TypeVariant N
primitive_variant primitive.Long = Long
primitive_variant primitive.String = String
primitive_variant primitive.Bool = Boolean
