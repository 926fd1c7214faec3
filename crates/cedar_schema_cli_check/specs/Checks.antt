-- What `check` tells of its inputs. Names and inputs are their bytes.
use Rattle.std.specs.Prelude.{◌≡◌, ℕ, List, [], ◌∷◌, ◌++◌, codes, Option, Ok, Err, IsUtf8}
use Rattle.cedar_files.specs.Files.{Contents}
use Rattle.cedar_files.specs.declared.fault.FileFault.{FileFault}
use Rattle.cedar_names.specs.declared.extension_table.ExtensionTable.{ExtensionTable}
use Rattle.cedar_runs.specs.Reports as runs
use Rattle.cedar_runs.specs.declared.status.Status.{Status}
use Rattle.cedar_runs.specs.declared.status.Status.TheVariants.{Done, NotText}
use Rattle.cedar_schema_core.specs.Commands.{IsStandard}
use Rattle.schema_report.specs.Lines.{TextLines, AreLineStarts}
use Rattle.schema_report.specs.declared.report.Report.{Report}
use Rattle.schema_text_reports.specs.ReportReplies.{reports_status}
use Rattle.schema_text_reports.specs.TextReports.{AreTextReports}
use Rattle.cedar_schema_cli_words.specs.declared.asked.Options.{Options}
use Rattle.cedar_schema_cli_inputs.specs.Inputs.{Given, Gives}
use Rattle.cedar_schema_cli_sheets.specs.Sheets.{Item, items_of, fault_item, sheet_text}
use Rattle.cedar_schema_cli_check.specs.Statuses.{fault_words, fault_status, joined_status}

-- what is reported of what reading an input gave, and the status that this gives
pub data IsChecked (table : ExtensionTable) (name : List ℕ) : Given → List Item → Status → Type 0 where
  text : {lines : TextLines} → IsUtf8 lines.text → AreLineStarts lines.text lines.starts → {reports : List Report}
      → AreTextReports lines.text table reports
      → IsChecked table name (Ok lines.text) (items_of name lines reports) (reports_status reports)
  not_text : {bytes : List ℕ} → (IsUtf8 bytes → ⊥)
      → IsChecked table name (Ok bytes) (fault_item name (codes "the input is not UTF-8") ∷ []) NotText
  unread : {fault : FileFault}
      → IsChecked table name (Err fault) (fault_item name (fault_words fault) ∷ []) (fault_status fault)

-- what is reported of the inputs with these names, one after another, and the status: done, or that of the first that
-- is not fine
pub data AreChecked (table : ExtensionTable) (files : Option Contents) (standard : Given)
    : List (List ℕ) → List Item → Status → Type 0 where
  none : AreChecked table files standard [] [] Done
  then : {names : List (List ℕ)} {items : List Item} {status : Status}
      → AreChecked table files standard names items status → {name : List ℕ} {given : Given}
      → Gives files standard name given → {more : List Item} {next : Status} → IsChecked table name given more next
      → AreChecked table files standard (names ++ name ∷ []) (items ++ more) (joined_status status next)

-- what `check` writes: the reports of its inputs in the form that is asked for, with all extension types that Cedar has
pub record IsCheckReport (files : Option Contents) (standard : Given) (options : Options) (names : List (List ℕ))
    (report : runs.Report) : Type 0 where
  pub table : ExtensionTable
  pub full : IsStandard table
  pub items : List Item
  pub checked : AreChecked table files standard names items report.status
  pub out : report.out ≡ sheet_text options.form options.all items
  pub err : report.err ≡ []
