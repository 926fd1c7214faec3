use Rattle.std.proofs.lemmas.Result.{IfOk-weaker}
use Rattle.std.proofs.Common.{subst, ap, ◌∙◌}
use Rattle.schema_text_reports.specs.ReportReplies.{reports_report}
use Rattle.schema_text_reports.specs.TextReports.{AreTextReports}
use Rattle.schema_text_reports.proofs.reply.reports_reply.Goals as goal

pub returns : goal.returns
returns c =
    IfOk-weaker c.reply_with.result _ _ (λ reply says. record {
      reports = c.in_ok-reports.reports.items;
      of_text = subst (λ text. AreTextReports text c.args.table.now c.in_ok-reports.reports.items)
          c.in_ok-lines.ensures.0 c.in_ok-reports.ensures;
      says = says ∙ ap reports_report c.deref.ensures.value;
    }) c.reply_with.ensures
