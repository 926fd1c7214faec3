-- What a JSON text means, what is recovered from it, and why nothing is; and what is written as JSON of a schema text.
-- A text is its bytes.
use Rattle.std.specs.Prelude.{◌≡◌, ◌≢◌, ◌⊎◌, ℕ, List, [], length}
use Rattle.std.specs.Str.{encode_utf8_all}
use Rattle.serde_json.specs.Data.{Data}
use Rattle.serde_json.specs.Written.{compact_text}
use Rattle.cedar_data.specs.declared.text.Text.{Text}
use Rattle.cedar_identifiers.specs.declared.raw_name.RawName.{RawName}
use Rattle.cedar_names.specs.CanonicalText.{canonical_text}
use Rattle.cedar_names.specs.Meaning.{SchemaMeaning}
use Rattle.cedar_names.specs.declared.extension_table.ExtensionTable.{ExtensionTable}
use Rattle.schema_json.specs.declared.fragment.Fragment.{Fragment}
use Rattle.schema_json.specs.AsWritten.{as_written}
use Rattle.schema_json_errors.specs.declared.json_error.JsonDeserializationError.{JsonDeserializationError}
use Rattle.schema_json_errors.specs.declared.json_fault.JsonFault.TheVariants as cause
use Rattle.schema_json_values.specs.FragmentValues.{json_value}
use Rattle.schema_json_io.specs.Causes.{IsJsonTextError}
use Rattle.schema_json_io.specs.Texts.{TextShape}
use Rattle.schema_compat.specs.Causes.{OldText, IsOldTextError}
use Rattle.schema_build.specs.Meaning.{FragmentMeaning}
use Rattle.schema_build.specs.Texts.{IsFragmentOf}
use Rattle.schema_build_checks.specs.Rows.{Never}
use Rattle.schema_build_errors.specs.declared.captured.ReferenceCaptured.{ReferenceCaptured}
use Rattle.schema_build_errors.specs.declared.schema_error.SchemaError.{SchemaError}
use Rattle.schema_build_errors.specs.declared.schema_error.SchemaError.TheVariants.{JsonDeserialization}
use Rattle.schema_build_parts.specs.BuildFaults.{BuildFault}
use Rattle.schema_build_text.specs.Captured.{IsUncaptured, IsFirstCaptured}
use Rattle.cedar_schema_core.specs.declared.json_texts.JsonForm.{JsonForm}
use Rattle.cedar_schema_core.specs.declared.json_texts.JsonForm.TheVariants.{Current, Deprecated}
use Rattle.cedar_schema_core.specs.declared.recover.Recovered.{Recovered}
use Rattle.cedar_schema_core_faults.specs.declared.recover_error.RecoverError.{RecoverError}
use Rattle.cedar_schema_core_faults.specs.declared.recover_error.RecoverError.TheVariants.{Parse, Schema, Captured}
use Rattle.cedar_schema_core_faults.specs.declared.recover_error.RecoverError.TheVariants.{Memory}

-- ---- written

-- the JSON value of a fragment as it is written
abbrev pub written_value : Fragment RawName as_written → Data
written_value f = json_value as_written.components f

-- the schema text is translated, and this is the compact JSON of its fragment
abbrev pub IsJsonOfText : List ℕ → ExtensionTable → Text → Type 0
IsJsonOfText text table json =
    (f : Fragment RawName as_written) × IsFragmentOf text table f
    × (encode_utf8_all json ≡ compact_text (written_value f))

-- ---- read

-- the JSON text says the fragment in its form
abbrev pub SaysIn : JsonForm → List ℕ → Fragment RawName as_written → Type 0
SaysIn Current text f = TextShape text f
SaysIn Deprecated text f = OldText text f

-- the JSON text says no fragment in its form, for this cause
abbrev pub IsErrorIn : JsonForm → List ℕ → JsonDeserializationError → Type 0
IsErrorIn Current text e = IsJsonTextError text e
IsErrorIn Deprecated text e = IsOldTextError text e

-- the JSON text says a fragment without a fault that has this meaning, in which no type is captured
pub record JsonMeaning (form : JsonForm) (text : List ℕ) (table : ExtensionTable) (m : SchemaMeaning) : Type 0 where
  pub fragment : Fragment RawName as_written
  pub says : SaysIn form text fragment
  pub faultless : Never (BuildFault fragment table)
  pub means : FragmentMeaning fragment table m
  pub uncaptured : IsUncaptured m

-- the JSON text means something under the table
abbrev pub IsValidJson : JsonForm → List ℕ → ExtensionTable → Type 0
IsValidJson form text table = (m : SchemaMeaning) × JsonMeaning form text table m

-- the canonical text of the JSON text's meaning, and how much the meaning holds; there are no warnings
pub record IsRecoveredJson (form : JsonForm) (text : List ℕ) (table : ExtensionTable) (recovered : Recovered)
    : Type 0 where
  pub meaning : SchemaMeaning
  pub means : JsonMeaning form text table meaning
  pub canonical : encode_utf8_all recovered.text ≡ canonical_text meaning
  pub no_warnings : recovered.warnings.items ≡ []
  pub entity_types : recovered.entity_types ≡ length meaning.entities
  pub actions : recovered.actions ≡ length meaning.actions

-- the JSON text's fragment means something in which this is the first captured item
pub record IsCapturedJson (form : JsonForm) (text : List ℕ) (table : ExtensionTable) (captured : ReferenceCaptured)
    : Type 0 where
  pub fragment : Fragment RawName as_written
  pub says : SaysIn form text fragment
  pub faultless : Never (BuildFault fragment table)
  pub meaning : SchemaMeaning
  pub means : FragmentMeaning fragment table meaning
  pub first : IsFirstCaptured meaning captured

-- the JSON text says no fragment, for this cause
abbrev pub IsReadError : JsonForm → List ℕ → SchemaError → Type 0
IsReadError form text (JsonDeserialization e) = (e.fault ≢ cause.Memory) × IsErrorIn form text e
IsReadError form text _ = ⊥

-- why nothing is recovered from a JSON text, the first that holds: it says no fragment, a fault of the schema, a
-- captured type. Memory may be out at any time
abbrev pub IsRefusalOfJson : JsonForm → List ℕ → ExtensionTable → RecoverError → Type 0
IsRefusalOfJson form text table (Parse e) = ⊥
IsRefusalOfJson form text table (Schema e) =
    IsReadError form text e ⊎ ((f : Fragment RawName as_written) × SaysIn form text f × BuildFault f table e)
IsRefusalOfJson form text table (Captured c) = IsCapturedJson form text table c
IsRefusalOfJson form text table Memory = Unit {0}
