-- Rows of the table of faults. A row says which error it gives, and it holds where it gives one.
use Rattle.std.specs.Prelude.{◌≡◌, ◌⊎◌}
use Rattle.schema_build_errors.specs.declared.schema_error.SchemaError.{SchemaError}
use Rattle.schema_build_errors.specs.declared.schema_error.SchemaError.TheVariants.{Memory}

-- the row does not hold
abbrev pub Never : (SchemaError → Type 0) → Type 0
Never row = (e : SchemaError) → row e → ⊥

-- memory may be out at any time
abbrev pub OrMemory : (SchemaError → Type 0) → SchemaError → Type 0
OrMemory row e = (e ≡ Memory) ⊎ row e
