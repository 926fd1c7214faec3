-- A fault is one of building, unless it is that of being out of memory.
use Rattle.std.proofs.Common.{◌≡◌, inl, inr}
use Rattle.schema_build_errors.specs.declared.schema_error.SchemaError.{SchemaError}
use Rattle.schema_build_errors.specs.declared.schema_error.SchemaError.TheVariants.{Memory}
use Rattle.schema_build_checks.specs.Rows.{OrMemory}

pub no_memory : (row : SchemaError → Type 0) (e : SchemaError) → OrMemory row e → (e ≡ Memory → ⊥) → row e
no_memory row e (inl want) other = absurd (other want)
no_memory row e (inr fault) other = fault
