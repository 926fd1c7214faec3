use Rattle.std.proofs.Common.{List, sym, subst, ap, ◌∙◌}
use Rattle.std.proofs.lemmas.Result.{IfOk-weaker}
use Rattle.schema_text_reports.specs.FaultReports.{fault_reports, warning_reports}
use Rattle.schema_text_reports.specs.TextReports.{AreTextReports, valid, refused}
use Rattle.schema_text_reports.proofs.reports.text_reports.Goals as goal

pub returns-in-Ok : goal.returns-in-Ok
returns-in-Ok c =
    let recovered = c.in-Ok.ensures.recovered in
    let table = c.args.table.now in
    let warnings = c.in-Ok.recovered.warnings.items in
    IfOk-weaker c.warnings_of.result _ _ (λ reports is.
    subst (AreTextReports c.args.lines.now.text table)
    (sym (is ∙ ap (warning_reports c.args.lines.now.text) c.deref.ensures.value))
    (subst (λ text. AreTextReports text table (warning_reports text warnings)) c.text.ensures
    (valid (recovered.meaning, recovered.means) warnings recovered.warns))) c.warnings_of.ensures

pub returns-in-Err : goal.returns-in-Err
returns-in-Err c =
    let table = c.args.table.now in
    IfOk-weaker c.faults_of.result _ _ (λ reports told.
    subst (AreTextReports c.args.lines.now.text table) (sym told.1)
    (subst (λ text. AreTextReports text table (fault_reports text c.in-Err.fault)) c.text.ensures
    (refused c.in-Err.fault told.0 c.in-Err.ensures.refused))) c.faults_of.ensures
