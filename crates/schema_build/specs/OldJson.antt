-- A schema that is read from JSON in the deprecated form, and why none is read. A text is its bytes.
use Rattle.std.specs.Prelude.{◌≢◌, ◌⊎◌, ℕ, List}
use Rattle.serde_json.specs.Data.{Data}
use Rattle.cedar_identifiers.specs.declared.raw_name.RawName.{RawName}
use Rattle.cedar_names.specs.declared.extension_table.ExtensionTable.{ExtensionTable}
use Rattle.schema_json.specs.declared.fragment.Fragment.{Fragment}
use Rattle.schema_json.specs.AsWritten.{as_written}
use Rattle.schema_json_errors.specs.declared.json_error.JsonDeserializationError.{JsonDeserializationError}
use Rattle.schema_json_errors.specs.declared.json_fault.JsonFault.{JsonFault}
use Rattle.schema_json_errors.specs.declared.json_fault.JsonFault.TheVariants as cause
use Rattle.schema_compat.specs.Causes.{OldText, OldValue, IsOldTextError, IsOldValueError}
use Rattle.schema_build_errors.specs.declared.schema_error.SchemaError.{SchemaError}
use Rattle.schema_build_errors.specs.declared.schema_error.SchemaError.TheVariants.{JsonDeserialization, Memory}
use Rattle.schema_build_checks.specs.Rows.{Never, OrMemory}
use Rattle.schema_build_parts.specs.BuildFaults.{BuildFault}
use Rattle.schema_build.specs.Schemas.{SchemaLists, Builds}

-- a fragment without a fault is said, and the schema stands for its meaning
pub record IsSchemaSaid (Says : Fragment RawName as_written → Type 0) (table : ExtensionTable) (s : SchemaLists)
    : Type 0 where
  pub fragment : Fragment RawName as_written
  pub says : Says fragment
  pub faultless : Never (BuildFault fragment table)
  pub builds : Builds fragment table s

-- no fragment is said, for this cause
abbrev pub IsUnsaid : (JsonDeserializationError → Type 0) → SchemaError → Type 0
IsUnsaid IsError (JsonDeserialization e) = (e.fault ≢ cause.Memory) × IsError e
IsUnsaid IsError _ = ⊥

-- the refusal of JSON as one of a schema: where memory is out, that is the schema's own
abbrev pub told : JsonFault → JsonDeserializationError → SchemaError
told cause.Memory e = Memory
told _ e = JsonDeserialization e

abbrev pub refusal : JsonDeserializationError → SchemaError
refusal e = told e.fault e

-- no fragment is said, or the one that is has this fault
abbrev pub IsSaidFault : (Fragment RawName as_written → Type 0) → (JsonDeserializationError → Type 0) → ExtensionTable
    → SchemaError → Type 0
IsSaidFault Says IsError table e =
    IsUnsaid IsError e ⊎ ((f : Fragment RawName as_written) × Says f × BuildFault f table e)

-- the text says a fragment without a fault, whose meaning the schema stands for
abbrev pub IsSchemaOfOldText : List ℕ → ExtensionTable → SchemaLists → Type 0
IsSchemaOfOldText text table s = IsSchemaSaid (OldText text) table s

-- why a text in the deprecated form makes no schema
abbrev pub IsOldTextFault : List ℕ → ExtensionTable → SchemaError → Type 0
IsOldTextFault text table e = OrMemory (IsSaidFault (OldText text) (IsOldTextError text) table) e

-- the value says a fragment without a fault, whose meaning the schema stands for
abbrev pub IsSchemaOfOldValue : Data → ExtensionTable → SchemaLists → Type 0
IsSchemaOfOldValue d table s = IsSchemaSaid (OldValue d) table s

-- why a value in the deprecated form makes no schema
abbrev pub IsOldValueFault : Data → ExtensionTable → SchemaError → Type 0
IsOldValueFault d table e = OrMemory (IsSaidFault (OldValue d) (IsOldValueError d) table) e
