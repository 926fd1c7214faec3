-- What a sheet gets as inputs are checked.
use Rattle.std.specs.Prelude.{ℕ, List, Option}
use Rattle.cedar_files.specs.Files.{Contents}
use Rattle.cedar_names.specs.declared.extension_table.ExtensionTable.{ExtensionTable}
use Rattle.cedar_runs.specs.declared.status.Status.{Status}
use Rattle.cedar_schema_cli_inputs.specs.Inputs.{Given, Gives}
use Rattle.cedar_schema_cli_sheets.specs.Says.{Gets}
use Rattle.cedar_schema_cli_sheets.specs.Sheets.{Item}
use Rattle.cedar_schema_cli_sheets.specs.declared.sheet.Sheet.{Sheet}
use Rattle.cedar_schema_cli_check.specs.Checks.{IsChecked, AreChecked}

-- the sheet has got what is reported of what was read of one input
pub record Adds (table : ExtensionTable) (name : List ℕ) (given : Given) (old new : Sheet) (status : Status)
    : Type 0 where
  pub more : List Item
  pub checked : IsChecked table name given more status
  pub gets : Gets old new more

-- the sheet has got what is reported of the input with this name
pub record AddsNamed (table : ExtensionTable) (files : Option Contents) (standard : Given) (name : List ℕ)
    (old new : Sheet) (status : Status) : Type 0 where
  pub given : Given
  pub gives : Gives files standard name given
  pub adds : Adds table name given old new status

-- the sheet has got what is reported of the inputs with these names
pub record AddsAll (table : ExtensionTable) (files : Option Contents) (standard : Given) (names : List (List ℕ))
    (old new : Sheet) (status : Status) : Type 0 where
  pub items : List Item
  pub checked : AreChecked table files standard names items status
  pub gets : Gets old new items
