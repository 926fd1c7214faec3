-- The fault of a value, as a fault of reading JSON.
use Rattle.schema_json_shapes.specs.declared.shape_fault.ShapeFault.{ShapeFault}
use Rattle.schema_json_shapes.specs.declared.shape_fault.ShapeFault.TheVariants as shape
use Rattle.schema_json_errors.specs.declared.json_fault.JsonFault.{JsonFault}
use Rattle.schema_json_errors.specs.declared.json_fault.JsonFault.TheVariants.{UnknownField, MissingField, WrongType}
use Rattle.schema_json_errors.specs.declared.json_fault.JsonFault.TheVariants.{BadName, ReservedCommonType, EmptyEnum}
use Rattle.schema_json_errors.specs.declared.json_fault.JsonFault.TheVariants.{ExternalConflict, EnumConflict}
use Rattle.schema_json_errors.specs.declared.json_fault.JsonFault.TheVariants.{AnnotationsOnEmptyNamespace, Memory}

-- the fault of reading JSON that stands for the fault of a value
abbrev pub of_shape : ShapeFault → JsonFault
of_shape (shape.UnknownField name) = UnknownField name
of_shape (shape.MissingField name) = MissingField name
of_shape (shape.WrongType name) = WrongType name
of_shape (shape.BadName role text fault) = BadName role text fault
of_shape (shape.ReservedCommonType id) = ReservedCommonType id
of_shape shape.EmptyEnum = EmptyEnum
of_shape (shape.ExternalConflict fields) = ExternalConflict fields
of_shape (shape.EnumConflict fields) = EnumConflict fields
of_shape shape.AnnotationsOnEmptyNamespace = AnnotationsOnEmptyNamespace
of_shape shape.Memory = Memory
