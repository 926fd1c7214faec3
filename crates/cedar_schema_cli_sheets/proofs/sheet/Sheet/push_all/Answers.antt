use Rattle.cedar_schema_cli_sheets.proofs.Getting.{gets_none}
use Rattle.cedar_schema_cli_sheets.proofs.sheet.Sheet.push_all.Goals as goal

pub loop-report-init : goal.loop-report-init
loop-report-init c = gets_none c.args.self.now
