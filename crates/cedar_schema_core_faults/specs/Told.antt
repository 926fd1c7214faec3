-- What a person is told of a refusal, as characters: for each fault what it says, the places that it points to, and
-- advice.
use Rattle.std.specs.Prelude.{ℕ, List, [], ◌∷◌, ◌++◌, map, codes, decimal, Option, Some, None}
use Rattle.std.specs.List.{flat_map}
use Rattle.cedar_data.specs.declared.label.Label.{Label}
use Rattle.schema_syntax_errors.specs.FaultHelps.{parse_error_help}
use Rattle.schema_syntax_errors.specs.FaultLabels.{parse_error_labels}
use Rattle.schema_syntax_errors.specs.FaultTexts.{parse_error_text}
use Rattle.schema_syntax_errors.specs.declared.parse_error.ParseError.{ParseError}
use Rattle.schema_convert_errors.specs.ErrorPlaces.{translation_fault_help, translation_fault_labels}
use Rattle.schema_convert_errors.specs.ErrorTexts.{translation_fault_text}
use Rattle.schema_convert_errors.specs.declared.error_list.CedarSchemaParseErrors.{CedarSchemaParseErrors}
use Rattle.schema_convert_errors.specs.declared.error_list.CedarSchemaParseErrors.TheVariants as parse
use Rattle.schema_convert_errors.specs.declared.errors.ToJsonSchemaError.{ToJsonSchemaError}
use Rattle.schema_build_errors.specs.CapturedTexts.{captured_text}
use Rattle.schema_build_errors.specs.SchemaErrorTexts.{schema_error_text, schema_error_help, schema_error_labels}
use Rattle.schema_build_errors.specs.declared.captured.ReferenceCaptured.{ReferenceCaptured}
use Rattle.schema_build_errors.specs.declared.schema_error.SchemaError.{SchemaError}
use Rattle.cedar_schema_core_faults.specs.declared.recover_error.RecoverError.{RecoverError}
use Rattle.cedar_schema_core_faults.specs.declared.recover_error.RecoverError.TheVariants.{Parse, Schema, Captured}
use Rattle.cedar_schema_core_faults.specs.declared.recover_error.RecoverError.TheVariants.{Memory}

-- what is told of one fault
pub record Told : Type 0 where
  pub text : List ℕ
  pub labels : List Label
  pub help : Option (List ℕ)

-- what a label says behind its place
abbrev pub said_there : Option (List ℕ) → List ℕ
said_there None = codes "\n"
said_there (Some text) = codes ": " ++ (text ++ codes "\n")

-- the line of a label, with its place as byte offsets
abbrev pub label_line : Label → List ℕ
label_line label =
    codes "  at " ++ (decimal label.span.start ++ (codes ".." ++ (decimal label.span.end ++ said_there label.text)))

-- the line of advice, where there is any
abbrev pub help_line : Option (List ℕ) → List ℕ
help_line None = []
help_line (Some help) = codes "  help: " ++ (help ++ codes "\n")

-- the lines of one fault
abbrev pub told_lines : Told → List ℕ
told_lines t = (codes "error: " ++ (t.text ++ codes "\n")) ++ (flat_map label_line t.labels ++ help_line t.help)

-- what is told of a fault with this text, these labels and this help
abbrev pub told : {T : Type 0} → (T → List ℕ) → (T → List Label) → (T → List ℕ → Option (List ℕ)) → List ℕ → T
    → Told
told text labels help source fault = record { text = text fault; labels = labels fault; help = help fault source }

-- a fault of the syntax or of a declaration
abbrev pub told_parse : List ℕ → ParseError → Told
told_parse source e =
    record { text = parse_error_text e; labels = parse_error_labels e; help = parse_error_help e source }

-- a fault of translation
abbrev pub told_translation : ToJsonSchemaError → Told
told_translation e =
    record { text = translation_fault_text e; labels = translation_fault_labels e; help = translation_fault_help e }

-- a fault of building
abbrev pub told_schema : SchemaError → Told
told_schema e = record { text = schema_error_text e; labels = schema_error_labels e; help = schema_error_help e }

-- a type that would be read otherwise
abbrev pub told_captured : ReferenceCaptured → Told
told_captured c = record { text = captured_text c; labels = []; help = None }

abbrev pub told_memory : Told
told_memory = record { text = codes "out of memory"; labels = []; help = None }

-- what is told of each fault of a text that is no fragment
abbrev pub told_text : List ℕ → CedarSchemaParseErrors → List Told
told_text source (parse.SyntaxError errors) = map (told_parse source) errors.errors
told_text source (parse.JsonError errors) = map told_translation errors.errors
told_text source parse.Memory = told_memory ∷ []

-- what is told of each fault of a refusal, in order
abbrev pub told_faults : List ℕ → RecoverError → List Told
told_faults source (Parse errors) = told_text source errors
told_faults source (Schema e) = told_schema e ∷ []
told_faults source (Captured c) = told_captured c ∷ []
told_faults source Memory = told_memory ∷ []

-- the lines that a refusal of the source is told in
abbrev pub fault_text : List ℕ → RecoverError → List ℕ
fault_text source e = flat_map told_lines (told_faults source e)
