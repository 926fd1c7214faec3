use Rattle.cedar_schema_cli_sheets.proofs.Outcomes.{on_ok}
use Rattle.cedar_schema_cli_sheets.proofs.Shown.{pushed}
use Rattle.cedar_schema_cli_sheets.proofs.sheet.Sheet.push.Goals as goal

pub returns : goal.returns
returns c = on_ok c.count_one.result _ _ (λ counts.
    pushed c.args.self.now c.show.new.self c.count_one.new.self
    (record { path = c.args.path.now; lines = c.args.lines.now; report = c.args.report.now })
    c.show.ensures.form c.show.ensures.all c.show.ensures.count c.in_ok-show.ensures.out counts) c.count_one.ensures
