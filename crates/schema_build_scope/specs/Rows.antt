-- Rows of the table of faults, one behind another.
use Rattle.std.specs.Prelude.{◌⊎◌}
use Rattle.schema_build_errors.specs.declared.schema_error.SchemaError.{SchemaError}
use Rattle.schema_build_checks.specs.Rows.{Never}

-- the row gives the error; or it does not hold, and the one behind it gives the error
abbrev pub OrElse : (SchemaError → Type 0) → (SchemaError → Type 0) → SchemaError → Type 0
OrElse row behind e = row e ⊎ (Never row × behind e)
