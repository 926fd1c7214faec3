-- A schema text that is read as a fragment or as a schema, and why it is neither. The text is its bytes.
use Rattle.std.specs.Prelude.{◌≡◌, ℕ, Bool, false, ◌==◌, List, [], ◌∷◌}
use Rattle.std.specs.Str.{trim_start}
use Rattle.cedar_identifiers.specs.declared.raw_name.RawName.{RawName}
use Rattle.cedar_names.specs.declared.extension_table.ExtensionTable.{ExtensionTable}
use Rattle.schema_json.specs.declared.fragment.Fragment.{Fragment}
use Rattle.schema_json.specs.AsWritten.{as_written}
use Rattle.schema_convert_errors.specs.declared.error_list.CedarSchemaParseErrors.{CedarSchemaParseErrors}
use Rattle.schema_convert_errors.specs.declared.error_list.CedarSchemaParseErrors.TheVariants as parse
use Rattle.schema_convert_errors.specs.declared.warnings.SchemaWarning.{SchemaWarning}
use Rattle.schema_convert.specs.Translated.{IsTranslationOfText, IsParseFailureOf}
use Rattle.schema_build_checks.specs.Rows.{Never}
use Rattle.schema_build_parts.specs.BuildFaults.{BuildFault}
use Rattle.schema_build.specs.Schemas.{SchemaLists, Builds}
use Rattle.schema_build.specs.declared.text_errors.CedarSchemaError.{CedarSchemaError}
use Rattle.schema_build.specs.declared.text_errors.CedarSchemaError.TheVariants.{Schema, Parsing, Memory}
use Rattle.schema_build.specs.declared.text_errors.CedarSchemaParseError.{CedarSchemaParseError}

-- it begins with `{`
abbrev begins_with_brace : List ℕ → Bool
begins_with_brace [] = false
begins_with_brace (b ∷ bs) = b == 123

-- the first character that is not blank is `{`, as in a schema in JSON
abbrev pub seems_json : List ℕ → Bool
seems_json text = begins_with_brace (trim_start text)

-- the text has no tree, or its tree is translated to no fragment
abbrev pub IsParseRefusal : List ℕ → CedarSchemaParseErrors → Type 0
IsParseRefusal text parse.Memory = ⊥
IsParseRefusal text e = IsParseFailureOf text e

-- the text is translated to no fragment, and is suspected where it seems to be JSON
pub record IsParseErrorOf (text : List ℕ) (e : CedarSchemaParseError) : Type 0 where
  pub refused : IsParseRefusal text e.errs
  pub suspected : e.suspect_json ≡ seems_json text

-- the text is translated to this fragment
abbrev pub IsFragmentOf : List ℕ → ExtensionTable → Fragment RawName as_written → Type 0
IsFragmentOf text table f = (warnings : List SchemaWarning) × IsTranslationOfText text table f warnings

-- why a text is read as no fragment
abbrev pub IsFragmentError : List ℕ → CedarSchemaError → Type 0
IsFragmentError text (Parsing e) = IsParseErrorOf text e
IsFragmentError text (Schema e) = ⊥
IsFragmentError text Memory = Unit {0}

-- why a text is read as no schema: it has no fragment, or its fragment has a fault
abbrev pub IsTextError : List ℕ → ExtensionTable → CedarSchemaError → Type 0
IsTextError text table (Parsing e) = IsParseErrorOf text e
IsTextError text table (Schema e) = (f : Fragment RawName as_written) × IsFragmentOf text table f × BuildFault f table e
IsTextError text table Memory = Unit {0}

-- the text is translated, with these warnings, to a fragment without a fault, and the schema stands for its meaning
pub record IsSchemaOfText (text : List ℕ) (table : ExtensionTable) (s : SchemaLists) (warnings : List SchemaWarning)
    : Type 0 where
  pub fragment : Fragment RawName as_written
  pub translated : IsTranslationOfText text table fragment warnings
  pub faultless : Never (BuildFault fragment table)
  pub builds : Builds fragment table s
