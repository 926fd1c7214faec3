use Rattle.std.proofs.Common.{[], ◌∷◌, refl}
use Rattle.cedar_schema_cli_sheets.specs.Sheets.{fault_item}
use Rattle.cedar_schema_cli_format.proofs.Taken.{reports_taken}
use Rattle.cedar_schema_cli_format.proofs.formatting.Formatting.take_fault.Goals as goal

pub returns : goal.returns
returns c =
    reports_taken c.args.name.now (fault_item c.args.name.now c.args.words.now ∷ []) c.args.status c.args.self.now _
    refl c.in_ok-push_fault.ensures refl c.joined_status-self.ensures refl
