-- What the refusal of a schema text says, advises and points to.
use Rattle.std.specs.Prelude.{ℕ, Bool, true, false, List, [], ◌++◌, Option, Some, None, codes}
use Rattle.cedar_data.specs.declared.label.Label.{Label}
use Rattle.schema_convert_errors.specs.ErrorTexts.{text_failure_text}
use Rattle.schema_convert_errors.specs.ErrorPlaces.{text_failure_help, text_failure_labels}
use Rattle.schema_build_errors.specs.SchemaErrorTexts.{schema_error_text, schema_error_help, schema_error_labels}
use Rattle.schema_build.specs.declared.text_errors.CedarSchemaError.{CedarSchemaError}
use Rattle.schema_build.specs.declared.text_errors.CedarSchemaError.TheVariants.{Schema, Parsing, Memory}
use Rattle.schema_build.specs.declared.text_errors.CedarSchemaParseError.{CedarSchemaParseError}

-- which call reads a schema in JSON
abbrev pub json_help : List ℕ
json_help =
    codes "this API was expecting a schema in the Cedar schema format; did you mean to use a different function, which expects a JSON-format Cedar schema"

-- the advice, and a line of its own where JSON is suspected
abbrev pub with_json_help : Bool → Option (List ℕ) → Option (List ℕ)
with_json_help false help = help
with_json_help true None = Some json_help
with_json_help true (Some help) = Some (help ++ (codes "\n" ++ json_help))

-- what is said where a schema text is not read as a fragment
abbrev pub schema_parse_error_text : CedarSchemaParseError → List ℕ
schema_parse_error_text e = codes "error parsing schema: " ++ text_failure_text e.errs

-- the advice where a schema text is not read as a fragment, if there is any
abbrev pub schema_parse_error_help : CedarSchemaParseError → List ℕ → Option (List ℕ)
schema_parse_error_help e source = with_json_help e.suspect_json (text_failure_help e.errs source)

-- what the refusal of a schema text says
abbrev pub text_error_text : CedarSchemaError → List ℕ
text_error_text (Schema e) = schema_error_text e
text_error_text (Parsing e) = schema_parse_error_text e
text_error_text Memory = codes "out of memory"

-- what the refusal of a schema text advises, if anything
abbrev pub text_error_help : CedarSchemaError → List ℕ → Option (List ℕ)
text_error_help (Schema e) source = schema_error_help e
text_error_help (Parsing e) source = schema_parse_error_help e source
text_error_help Memory source = None

-- the places that the refusal of a schema text points to
abbrev pub text_error_labels : CedarSchemaError → List Label
text_error_labels (Schema e) = schema_error_labels e
text_error_labels (Parsing e) = text_failure_labels e.errs
text_error_labels Memory = []
