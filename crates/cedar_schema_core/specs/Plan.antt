-- What the program is to do, for its words and its input.
use Rattle.std.specs.Prelude.{◌≡◌, ◌≢◌, ℕ, List, [], ◌++◌, codes, Some}
use Rattle.std.specs.List.{flat_map}
use Rattle.std.specs.Str.{encode_utf8_all}
use Rattle.cedar_runs.specs.Reports.{Report, IsTextReport}
use Rattle.schema_convert_errors.specs.WarningTexts.{warning_text}
use Rattle.schema_convert_errors.specs.declared.warnings.SchemaWarning.{SchemaWarning}
use Rattle.cedar_schema_core.specs.declared.command.Command.{Command}
use Rattle.cedar_runs.specs.declared.status.Status.TheVariants.{Done, Refused, Usage}
use Rattle.cedar_schema_core_faults.specs.declared.recover_error.RecoverError.{RecoverError}
use Rattle.cedar_schema_core_faults.specs.declared.recover_error.RecoverError.TheVariants.{Memory}
use Rattle.cedar_schema_core_faults.specs.Told.{fault_text}
use Rattle.cedar_schema_core.specs.Commands.{Asks, own_text, ReadsInput}
use Rattle.cedar_schema_core.specs.Answers.{IsWrittenBy, IsRefusedBy}

abbrev pub usage_report : Report
usage_report = record { status = Usage; out = []; err = codes "usage: cedar_schema_tool COMMAND [NAME..]\n" }

-- the report where the input is refused: its faults go to the error output
abbrev pub refused_report : List ℕ → RecoverError → Report
refused_report text e = record { status = Refused; out = []; err = encode_utf8_all (fault_text text e) }

-- a line for a warning, as characters
abbrev pub warning_line : SchemaWarning → List ℕ
warning_line w = codes "warning: " ++ (warning_text w ++ codes "\n")

-- what a command writes goes to the output, and a line for each warning to the error output
abbrev pub done_report : List ℕ → List SchemaWarning → Report
done_report out warnings =
    record { status = Done; out = out; err = encode_utf8_all (flat_map warning_line warnings) }

-- what a command answers to a text: one case for each cause
pub data IsAnswer (c : Command) (text : List ℕ) : Report → Type 0 where
  refused : (e : RecoverError) → e ≢ Memory → IsRefusedBy c text e → IsAnswer c text (refused_report text e)
  done : (out : List ℕ) (warnings : List SchemaWarning) → IsWrittenBy c text out warnings
      → IsAnswer c text (done_report out warnings)

-- the report of a command on an input: it is too long, or no text, or what the command answers to the text
abbrev pub IsInputPlan : Command → List ℕ → Report → Type 0
IsInputPlan c = IsTextReport (IsAnswer c)

-- the report for these words and this input, where no read fails: the words ask for no command, for one that reads the
-- input, or for one that makes its own text, which is never refused
pub data IsPlan (words : List (List ℕ)) (bytes : List ℕ) : Report → Type 0 where
  usage : ((c : Command) → Asks words c → ⊥) → IsPlan words bytes usage_report
  asked : (c : Command) → Asks words c → ReadsInput c → {report : Report} → IsInputPlan c bytes report
      → IsPlan words bytes report
  made : (c : Command) → Asks words c → (text : List ℕ) → own_text c ≡ Some text → (out : List ℕ)
      → (warnings : List SchemaWarning) → IsWrittenBy c text out warnings
      → IsPlan words bytes (done_report out warnings)
