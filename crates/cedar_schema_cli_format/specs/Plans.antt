-- What `format` plans for its inputs, before it replaces a file. Names and inputs are their bytes.
use Rattle.std.specs.Prelude.{ℕ, ◌||◌, if◌then◌else◌, List, [], ◌∷◌, ◌++◌, codes, Option, Ok, Err, IsUtf8}
use Rattle.std.specs.Str.{bytes_eq}
use Rattle.cedar_files.specs.Files.{Contents}
use Rattle.cedar_files.specs.declared.fault.FileFault.{FileFault}
use Rattle.cedar_runs.specs.declared.status.Status.{Status}
use Rattle.cedar_runs.specs.declared.status.Status.TheVariants.{Done, Refused, NotText}
use Rattle.cedar_schema_core_faults.specs.declared.recover_error.RecoverError.TheVariants.{Parse}
use Rattle.schema_convert_errors.specs.declared.error_list.CedarSchemaParseErrors.TheVariants.{SyntaxError}
use Rattle.schema_layout_pieces.specs.LaidOut.{IsLaidOutKept}
use Rattle.schema_layout_texts.specs.Answers.{HasTree}
use Rattle.schema_report.specs.Lines.{TextLines, AreLineStarts}
use Rattle.schema_syntax.specs.ParseAnswers.{IsRefusalOf}
use Rattle.schema_syntax_errors.specs.declared.parse_errors.ParseErrors.{ParseErrors}
use Rattle.schema_syntax_errors.specs.declared.parse_schema_error.ParseSchemaError.TheVariants.{Errors}
use Rattle.schema_text_reports.specs.FaultReports.{fault_reports}
use Rattle.cedar_schema_cli_words.specs.declared.asked.Mode.{Mode}
use Rattle.cedar_schema_cli_words.specs.declared.asked.Mode.TheVariants.{Print, Name, Write}
use Rattle.cedar_schema_cli_inputs.specs.Inputs.{Given, Gives, is_standard}
use Rattle.cedar_schema_cli_sheets.specs.Sheets.{Item, items_of, fault_item}
use Rattle.cedar_schema_cli_check.specs.Statuses.{fault_words, fault_status, joined_status}

-- what laying out an input comes to: its text and the text laid out, or what is reported of it and a status
pub data Outcome : Type 0 where
  laid : List ℕ → List ℕ → Outcome
  faulty : List Item → Status → Outcome

-- what laying out what was read of an input comes to
pub data IsOutcome (name : List ℕ) : Given → Outcome → Type 0 where
  laid_out : {old new : List ℕ} → HasTree old → IsLaidOutKept old new → IsOutcome name (Ok old) (laid old new)
  refused : {lines : TextLines} → AreLineStarts lines.text lines.starts → {errors : ParseErrors}
      → IsRefusalOf lines.text (Errors errors) → IsOutcome name (Ok lines.text)
      (faulty (items_of name lines (fault_reports lines.text (Parse (SyntaxError errors)))) Refused)
  not_text : {bytes : List ℕ} → (IsUtf8 bytes → ⊥)
      → IsOutcome name (Ok bytes) (faulty (fault_item name (codes "the input is not UTF-8") ∷ []) NotText)
  unread : {fault : FileFault}
      → IsOutcome name (Err fault) (faulty (fault_item name (fault_words fault) ∷ []) (fault_status fault))

-- a file that is to be replaced: the path beside it, at which its new content is written first, that content, and the
-- report where it cannot be replaced
pub record Replacement : Type 0 where
  pub path : List ℕ
  pub beside : List ℕ
  pub bytes : List ℕ
  pub told : List ℕ

-- the file with this new content
abbrev pub replacement : List ℕ → List ℕ → Replacement
replacement path bytes = record {
  path = path;
  beside = path ++ codes ".cedar-schema~";
  bytes = bytes;
  told = path ++ codes ": error: writing failed\n";
}

-- a plan: the output, the reports, the status, and the files to replace, in order
pub record Plan : Type 0 where
  pub out : List ℕ
  pub items : List Item
  pub status : Status
  pub replacements : List Replacement

-- what goes to the output: the texts laid out, or the names of files that would change; where files are replaced, the
-- text of the standard input alone
abbrev pub printed : Mode → List ℕ → Outcome → List ℕ
printed mode name (faulty items status) = []
printed Print name (laid old new) = new
printed Name name (laid old new) = if bytes_eq old new then [] else name ++ codes "\n"
printed Write name (laid old new) = if is_standard name then new else []

-- what is reported
abbrev pub told : Outcome → List Item
told (faulty items status) = items
told (laid old new) = []

-- the status: refused also where a file would change and is to be named
abbrev pub counted : Mode → Outcome → Status
counted mode (faulty items status) = status
counted Print (laid old new) = Done
counted Name (laid old new) = if bytes_eq old new then Done else Refused
counted Write (laid old new) = Done

-- the file that is to be replaced, where it changes
abbrev pub replaced : Mode → List ℕ → Outcome → List Replacement
replaced mode name (faulty items status) = []
replaced Print name (laid old new) = []
replaced Name name (laid old new) = []
replaced Write name (laid old new) =
    if is_standard name || bytes_eq old new then [] else replacement name new ∷ []

-- the plan for no input
abbrev pub empty_plan : Plan
empty_plan = record { out = []; items = []; status = Done; replacements = [] }

-- the plan with one input more
abbrev pub with_outcome : Mode → Plan → List ℕ → Outcome → Plan
with_outcome mode plan name outcome = record {
  out = plan.out ++ printed mode name outcome;
  items = plan.items ++ told outcome;
  status = joined_status plan.status (counted mode outcome);
  replacements = plan.replacements ++ replaced mode name outcome;
}

-- the plan for the inputs with these names, one after another
pub data IsPlan (mode : Mode) (files : Option Contents) (standard : Given) : List (List ℕ) → Plan → Type 0 where
  none : IsPlan mode files standard [] empty_plan
  then : {names : List (List ℕ)} {plan : Plan} → IsPlan mode files standard names plan → {name : List ℕ}
      {given : Given} → Gives files standard name given → {outcome : Outcome} → IsOutcome name given outcome
      → IsPlan mode files standard (names ++ name ∷ []) (with_outcome mode plan name outcome)
