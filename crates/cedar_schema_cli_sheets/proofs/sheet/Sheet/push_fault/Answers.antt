use Rattle.std.proofs.Common.{[], ◌∷◌, OnOk, subst}
use Rattle.cedar_schema_cli_sheets.specs.Says.{Gets}
use Rattle.cedar_schema_cli_sheets.proofs.NoLines.{lines_of_nothing}
use Rattle.cedar_schema_cli_sheets.proofs.sheet.Sheet.push_fault.Goals as goal

pub returns : goal.returns
returns c =
    let lines = lines_of_nothing c.in_ok-lines.lines c.in_ok-lines.ensures.0 c.in_ok-lines.ensures.1 in
    subst (λ item. OnOk c.push.result (Gets c.args.self.now c.push.new.self (item ∷ [])))
    (λ i. record { path = c.args.path.now; lines = lines i; report = c.in_ok-report.ensures i }) c.push.ensures
