use Rattle.std.proofs.Common.{subst, sym, arith}
use Rattle.std.proofs.lemmas.Result.{IfOk-weaker}
use Rattle.cedar_runs.specs.Reports.{IsTextReport, report_of, not_text, too_long, answered}
use Rattle.schema_text_reports.specs.ReportReplies.{IsReportsReport}
use Rattle.schema_text_reports.proofs.reply.reply_of_reports.Goals as goal

pub returns-then-bytes-gt-MAX_INPUT : goal.returns-then-bytes-gt-MAX_INPUT
returns-then-bytes-gt-MAX_INPUT c =
    IfOk-weaker c.too_long.result _ _ (λ reply is. record {
      table = c.in_ok-table.table;
      standard = c.in_ok-table.ensures;
      says = subst (IsTextReport (IsReportsReport c.in_ok-table.table) c.args.bytes.now) (sym is)
          (too_long (omega (arith, c.if-bytes-gt-MAX_INPUT.true)));
    }) c.too_long.ensures

pub returns-in-Ok : goal.returns-in-Ok
returns-in-Ok c =
    IfOk-weaker c.reports_reply.result _ _ (λ reply h. record {
      table = c.in_ok-table.table;
      standard = c.in_ok-table.ensures;
      says = answered (omega (arith, c.if-bytes-gt-MAX_INPUT.false)) c.in-Ok.ensures.cases.1
          (subst (λ t. IsReportsReport c.in_ok-table.table t (report_of reply)) c.in-Ok.ensures.cases.0 h);
    }) c.reports_reply.ensures

pub returns : goal.returns
returns c =
    IfOk-weaker c.not_text.result _ _ (λ reply is. record {
      table = c.in_ok-table.table;
      standard = c.in_ok-table.ensures;
      says = subst (IsTextReport (IsReportsReport c.in_ok-table.table) c.args.bytes.now) (sym is)
          (not_text (omega (arith, c.if-bytes-gt-MAX_INPUT.false)) c.in-Err.ensures.cases.0);
    }) c.not_text.ensures
