-- What is reported of a schema text. The text is its bytes.
use Rattle.std.specs.Prelude.{◌≢◌, ℕ, List}
use Rattle.cedar_names.specs.declared.extension_table.ExtensionTable.{ExtensionTable}
use Rattle.schema_convert_errors.specs.declared.warnings.SchemaWarning.{SchemaWarning}
use Rattle.cedar_schema_core_faults.specs.declared.recover_error.RecoverError.{RecoverError}
use Rattle.cedar_schema_core_faults.specs.declared.recover_error.RecoverError.TheVariants.{Memory}
use Rattle.cedar_schema_core.specs.Meanings.{IsValid, Warns}
use Rattle.cedar_schema_core.specs.Recovery.{IsRefusal}
use Rattle.schema_report.specs.declared.report.Report.{Report}
use Rattle.schema_text_reports.specs.FaultReports.{fault_reports, warning_reports}

-- the text is valid, and its warnings are reported; or it is refused, and its faults are
pub data AreTextReports (text : List ℕ) (table : ExtensionTable) : List Report → Type 0 where
  valid : IsValid text table → (warnings : List SchemaWarning) → Warns text table warnings
      → AreTextReports text table (warning_reports text warnings)
  refused : (fault : RecoverError) → fault ≢ Memory → IsRefusal text table fault
      → AreTextReports text table (fault_reports text fault)
