-- What is read from JSON in the deprecated form makes a schema, or is refused.
use Rattle.std.proofs.Common.{◌≡◌, inl, inr, refl}
use Rattle.schema_json_errors.specs.declared.json_error.JsonDeserializationError.{JsonDeserializationError}
use Rattle.schema_json_errors.specs.declared.json_fault.JsonFault.{JsonFault}
use Rattle.schema_json_errors.specs.declared.json_fault.JsonFault.TheVariants as cause
use Rattle.schema_build_checks.specs.Rows.{OrMemory}
use Rattle.schema_build.specs.OldJson.{IsUnsaid, told}

module _ (IsError : JsonDeserializationError → Type 0) where
  -- a refusal is told as one of a schema
  pub unsaid : (fault : JsonFault) (e : JsonDeserializationError) → e.fault ≡ fault → IsError e
      → OrMemory (IsUnsaid IsError) (told fault e)
  unsaid cause.Memory e is h = inl refl
  unsaid _ e is h = inr ((λ m. absurd cc), h)
