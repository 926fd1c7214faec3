use Rattle.std.proofs.Common.{take}
use Rattle.cedar_schema_cli_sheets.specs.Sheets.{items_of}
use Rattle.cedar_schema_cli_sheets.specs.Says.{Gets}
use Rattle.cedar_schema_cli_sheets.proofs.sheet.Sheet.push_all.Given as goal

abbrev pub invariant-loop-report : goal.invariant-loop-report
invariant-loop-report l = Gets l.initial.self l.self (items_of l.path l.lines (take l.report-index l.reports))
