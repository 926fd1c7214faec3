-- A refusal of building, as what it is seen as: an error.
use Rattle.std.specs.Prelude.{Option, Some, None}
use Rattle.schema_build_errors.specs.declared.schema_error.SchemaError.{SchemaError}
use Rattle.schema_build_errors.specs.declared.schema_error.SchemaError.TheVariants.{Memory}

-- the error, where there is one, and else out of memory
abbrev pub error_or_memory : Option SchemaError → SchemaError
error_or_memory (Some error) = error
error_or_memory None = Memory
