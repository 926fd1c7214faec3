-- The reports on one input more.
use Rattle.std.proofs.Common.{ℕ, List, [], ◌∷◌, ◌++◌, Option}
use Rattle.cedar_files.specs.Files.{Contents, Keeps}
use Rattle.cedar_names.specs.declared.extension_table.ExtensionTable.{ExtensionTable}
use Rattle.cedar_runs.specs.declared.status.Status.{Status}
use Rattle.cedar_schema_cli_inputs.specs.Inputs.{Given}
use Rattle.cedar_schema_cli_inputs.proofs.Keeping.{gives_before}
use Rattle.cedar_schema_cli_sheets.proofs.Getting.{gets_on}
use Rattle.cedar_schema_cli_sheets.specs.declared.sheet.Sheet.{Sheet}
use Rattle.cedar_schema_cli_check.specs.Checking.{Adds, AddsNamed, AddsAll}
use Rattle.cedar_schema_cli_check.specs.Checks.{IsChecked, AreChecked, then}
use Rattle.cedar_schema_cli_check.specs.Statuses.{joined_status}

pub further : (table : ExtensionTable) (files mid : Option Contents) (standard : Given) (names : List (List ℕ))
    (name : List ℕ) (first old new : Sheet) (status next : Status) → AddsAll table files standard names first old status
    → Keeps files mid → AddsNamed table mid standard name old new next
    → AddsAll table files standard (names ++ name ∷ []) first new (joined_status status next)
further table files mid standard names name first old new status next all same named = record {
  items = all.items ++ named.adds.more;
  checked = then all.checked (gives_before files mid standard name named.given same named.gives) named.adds.checked;
  gets = gets_on first old new all.items named.adds.more all.gets named.adds.gets;
}
