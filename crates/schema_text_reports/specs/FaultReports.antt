-- The reports of the faults and of the warnings of a text. The text is its bytes.
use Rattle.std.specs.Prelude.{ℕ, List, [], ◌∷◌, Option, None, map}
use Rattle.cedar_data.specs.declared.label.Label.{Label}
use Rattle.cedar_data.specs.declared.severity.Severity.TheVariants.{Error, Warning}
use Rattle.schema_syntax_errors.specs.FaultHelps.{parse_error_help}
use Rattle.schema_syntax_errors.specs.FaultLabels.{parse_error_labels}
use Rattle.schema_syntax_errors.specs.FaultTexts.{parse_error_text}
use Rattle.schema_convert_errors.specs.ErrorPlaces.{translation_fault_help, translation_fault_labels}
use Rattle.schema_convert_errors.specs.ErrorTexts.{translation_fault_text}
use Rattle.schema_convert_errors.specs.WarningTexts.{warning_text, warning_labels}
use Rattle.schema_convert_errors.specs.declared.error_list.CedarSchemaParseErrors.{CedarSchemaParseErrors}
use Rattle.schema_convert_errors.specs.declared.error_list.CedarSchemaParseErrors.TheVariants as parse
use Rattle.schema_convert_errors.specs.declared.warnings.SchemaWarning.{SchemaWarning}
use Rattle.schema_build_errors.specs.CapturedTexts.{captured_text}
use Rattle.schema_build_errors.specs.SchemaErrorTexts.{schema_error_text, schema_error_help, schema_error_labels}
use Rattle.cedar_schema_core_faults.specs.declared.recover_error.RecoverError.{RecoverError}
use Rattle.cedar_schema_core_faults.specs.declared.recover_error.RecoverError.TheVariants.{Parse, Schema, Captured}
use Rattle.cedar_schema_core_faults.specs.declared.recover_error.RecoverError.TheVariants.{Memory}
use Rattle.schema_report.specs.declared.report.Report.{Report}
use Rattle.schema_report.specs.Reports.{reported}

-- the reports of faults that say this, and have this help and these labels
abbrev pub error_reports : {T : Type 0} → (T → List ℕ) → (T → List ℕ → Option (List ℕ)) → (T → List Label) → List ℕ
    → List T → List Report
error_reports said help labels text faults = map (reported (λ _. Error) said help labels None text) faults

-- the reports of all faults of a text that is no fragment
abbrev pub parse_reports : List ℕ → CedarSchemaParseErrors → List Report
parse_reports text (parse.SyntaxError errors) =
    error_reports parse_error_text parse_error_help parse_error_labels text errors.errors
parse_reports text (parse.JsonError errors) =
    error_reports translation_fault_text (λ e _. translation_fault_help e) translation_fault_labels text errors.errors
parse_reports text parse.Memory = []

-- the reports of all faults of a text from which nothing is recovered, in order
abbrev pub fault_reports : List ℕ → RecoverError → List Report
fault_reports text (Parse errors) = parse_reports text errors
fault_reports text (Schema e) =
    error_reports schema_error_text (λ e _. schema_error_help e) schema_error_labels text (e ∷ [])
fault_reports text (Captured c) = error_reports captured_text (λ _ _. None) (λ _. []) text (c ∷ [])
fault_reports text Memory = []

-- the reports of the warnings of a text, in order
abbrev pub warning_reports : List ℕ → List SchemaWarning → List Report
warning_reports text warnings =
    map (reported (λ _. Warning) warning_text (λ _ _. None) warning_labels None text) warnings
