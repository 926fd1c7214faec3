use Rattle.std.proofs.Common.{refl}
use Rattle.cedar_schema_cli_sheets.specs.Sheets.{items_of}
use Rattle.cedar_schema_cli_format.proofs.Taken.{reports_taken}
use Rattle.cedar_schema_cli_format.proofs.formatting.Formatting.take_reports.Goals as goal

pub returns : goal.returns
returns c =
    reports_taken c.args.name.now (items_of c.args.name.now c.args.lines.now c.args.reports.now) c.args.status
    c.args.self.now _ refl c.in_ok-push_all.ensures refl c.joined_status-self.ensures refl
