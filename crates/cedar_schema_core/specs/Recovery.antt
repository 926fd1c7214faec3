-- What is recovered from a text, and why nothing is.
use Rattle.std.specs.Prelude.{◌≡◌, ℕ, List, length}
use Rattle.std.specs.Str.{encode_utf8_all}
use Rattle.cedar_identifiers.specs.declared.raw_name.RawName.{RawName}
use Rattle.cedar_names.specs.Meaning.{SchemaMeaning}
use Rattle.cedar_names.specs.CanonicalText.{canonical_text}
use Rattle.cedar_names.specs.declared.extension_table.ExtensionTable.{ExtensionTable}
use Rattle.schema_json.specs.declared.fragment.Fragment.{Fragment}
use Rattle.schema_json.specs.AsWritten.{as_written}
use Rattle.schema_build.specs.Texts.{IsFragmentOf, IsParseRefusal}
use Rattle.schema_build_checks.specs.Rows.{Never}
use Rattle.schema_build_parts.specs.BuildFaults.{BuildFault}
use Rattle.schema_build.specs.Meaning.{FragmentMeaning}
use Rattle.schema_build_text.specs.Captured.{IsFirstCaptured}
use Rattle.schema_build_errors.specs.declared.captured.ReferenceCaptured.{ReferenceCaptured}
use Rattle.cedar_schema_core.specs.declared.recover.Recovered.{Recovered}
use Rattle.cedar_schema_core_faults.specs.declared.recover_error.RecoverError.{RecoverError}
use Rattle.cedar_schema_core_faults.specs.declared.recover_error.RecoverError.TheVariants.{Parse, Schema, Captured}
use Rattle.cedar_schema_core_faults.specs.declared.recover_error.RecoverError.TheVariants.{Memory}
use Rattle.cedar_schema_core.specs.Meanings.{TextMeaning, Warns}

-- the canonical text of the text's meaning, its warnings, and how much the meaning holds
pub record IsRecovered (text : List ℕ) (table : ExtensionTable) (recovered : Recovered) : Type 0 where
  pub meaning : SchemaMeaning
  pub means : TextMeaning text table meaning
  pub canonical : encode_utf8_all recovered.text ≡ canonical_text meaning
  pub warns : Warns text table recovered.warnings.items
  pub entity_types : recovered.entity_types ≡ length meaning.entities
  pub actions : recovered.actions ≡ length meaning.actions

-- the text's fragment means something in which this is the first captured item
pub record IsCaptured (text : List ℕ) (table : ExtensionTable) (captured : ReferenceCaptured) : Type 0 where
  pub fragment : Fragment RawName as_written
  pub translated : IsFragmentOf text table fragment
  pub faultless : Never (BuildFault fragment table)
  pub meaning : SchemaMeaning
  pub means : FragmentMeaning fragment table meaning
  pub first : IsFirstCaptured meaning captured

-- why nothing is recovered, the first that holds: a fault of the syntax, a fault of a declaration, a fault of
-- translation, a fault of the schema, a captured type. Memory may be out at any time
abbrev pub IsRefusal : List ℕ → ExtensionTable → RecoverError → Type 0
IsRefusal text table (Parse e) = IsParseRefusal text e
IsRefusal text table (Schema e) = (f : Fragment RawName as_written) × IsFragmentOf text table f × BuildFault f table e
IsRefusal text table (Captured c) = IsCaptured text table c
IsRefusal text table Memory = Unit {0}
