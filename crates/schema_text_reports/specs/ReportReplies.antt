-- What a program hands out of the reports on a text. The text is its bytes.
use Rattle.std.specs.Prelude.{◌≡◌, ℕ, Bool, true, false, List, [], codes, if◌then◌else◌}
use Rattle.std.specs.List.{list_any, flat_map}
use Rattle.cedar_data.specs.declared.severity.Severity.TheVariants.{Error, Warning}
use Rattle.cedar_data.specs.declared.severity.Severity.{Severity}
use Rattle.cedar_names.specs.declared.extension_table.ExtensionTable.{ExtensionTable}
use Rattle.cedar_runs.specs.Reports as runs
use Rattle.cedar_runs.specs.declared.status.Status.{Status}
use Rattle.cedar_runs.specs.declared.status.Status.TheVariants.{Done, Refused}
use Rattle.cedar_schema_core.specs.Commands.{IsStandard}
use Rattle.schema_report.specs.Json.{json_line}
use Rattle.schema_report.specs.declared.report.Report.{Report}
use Rattle.schema_text_reports.specs.TextReports.{AreTextReports}

-- a fault, and no warning
abbrev pub is_fault : Severity → Bool
is_fault Error = true
is_fault Warning = false

-- a report of a fault
abbrev pub is_error : Report → Bool
is_error report = is_fault report.severity

-- refused where one of the reports is of a fault
abbrev pub reports_status : List Report → Status
reports_status reports = if list_any is_error reports then Refused else Done

-- the reports as JSON, one a line, of a text that is no file
abbrev pub json_lines : List Report → List ℕ
json_lines reports = flat_map (json_line (codes "-")) reports

-- what is handed out of these reports
abbrev pub reports_report : List Report → runs.Report
reports_report reports = record {
  status = reports_status reports;
  out = json_lines reports;
  err = [];
}

-- what is handed out of the reports on a text
pub record IsReportsReport (table : ExtensionTable) (text : List ℕ) (report : runs.Report) : Type 0 where
  pub reports : List Report
  pub of_text : AreTextReports text table reports
  pub says : report ≡ reports_report reports

-- what is handed out of the reports on an input, with all extension types that Cedar has
pub record IsReportsPlan (bytes : List ℕ) (report : runs.Report) : Type 0 where
  pub table : ExtensionTable
  pub standard : IsStandard table
  pub says : runs.IsTextReport (IsReportsReport table) bytes report
