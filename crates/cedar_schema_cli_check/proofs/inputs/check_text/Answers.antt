use Rattle.std.proofs.Common.{◌∙◌, ap, sym, subst, Ok, IsUtf8}
use Rattle.schema_report.specs.Lines.{AreLineStarts}
use Rattle.schema_text_reports.specs.ReportReplies.{reports_status}
use Rattle.cedar_schema_cli_sheets.specs.Says.{Gets}
use Rattle.cedar_schema_cli_sheets.specs.Sheets.{items_of}
use Rattle.cedar_schema_cli_check.specs.Checks.{IsChecked, text}
use Rattle.cedar_schema_cli_check.proofs.inputs.check_text.Goals as goal

pub returns : goal.returns
returns c =
    let table = c.args.table.now in
    let name = c.args.name.now in
    let lines = c.in_ok-lines.lines in
    let reports = c.in_ok-reports.reports.items in
    let same = c.in_ok-lines.ensures.0 in
    let counts = c.reports_status.ensures ∙ ap reports_status c.deref-2.ensures.value in
    record {
      more = items_of name lines reports;
      checked = subst (IsChecked table name (Ok c.args.text.now) (items_of name lines reports)) (sym counts)
          (subst (λ t. IsChecked table name (Ok t) (items_of name lines reports) (reports_status reports)) same
          (text (subst IsUtf8 (sym same) c.utf8.text)
          (subst (λ t. AreLineStarts t lines.starts) (sym same) c.in_ok-lines.ensures.1) c.in_ok-reports.ensures));
      gets = subst (λ rs. Gets c.args.sheet.now c.push_all.new.self (items_of name lines rs)) c.deref.ensures.value
          c.in_ok-push_all.ensures;
    }
