-- What a schema text means. The text is its bytes.
use Rattle.std.specs.Prelude.{ℕ, List}
use Rattle.cedar_identifiers.specs.declared.raw_name.RawName.{RawName}
use Rattle.cedar_names.specs.Meaning.{SchemaMeaning}
use Rattle.cedar_names.specs.declared.extension_table.ExtensionTable.{ExtensionTable}
use Rattle.schema_json.specs.declared.fragment.Fragment.{Fragment}
use Rattle.schema_json.specs.AsWritten.{as_written}
use Rattle.schema_convert_errors.specs.declared.warnings.SchemaWarning.{SchemaWarning}
use Rattle.schema_convert.specs.Translated.{IsTranslationOfText}
use Rattle.schema_build.specs.Texts.{IsFragmentOf}
use Rattle.schema_build_checks.specs.Rows.{Never}
use Rattle.schema_build_parts.specs.BuildFaults.{BuildFault}
use Rattle.schema_build.specs.Meaning.{FragmentMeaning}
use Rattle.schema_build_text.specs.Captured.{IsUncaptured}

-- the text is translated, and these are its warnings
abbrev pub Warns : List ℕ → ExtensionTable → List SchemaWarning → Type 0
Warns text table warnings = (f : Fragment RawName as_written) × IsTranslationOfText text table f warnings

-- the text is translated to a fragment without a fault that has this meaning, in which no type is captured
pub record TextMeaning (text : List ℕ) (table : ExtensionTable) (m : SchemaMeaning) : Type 0 where
  pub fragment : Fragment RawName as_written
  pub translated : IsFragmentOf text table fragment
  pub faultless : Never (BuildFault fragment table)
  pub means : FragmentMeaning fragment table m
  pub uncaptured : IsUncaptured m

-- the text means something under the table
abbrev pub IsValid : List ℕ → ExtensionTable → Type 0
IsValid text table = (m : SchemaMeaning) × TextMeaning text table m
