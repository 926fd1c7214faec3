use Rattle.std.proofs.Common.{subst, arith}
use Rattle.std.proofs.lemmas.Result.{IfOk-weaker}
use Rattle.cedar_runs.specs.Reports.{report_of, not_text, not_text_report, too_long, too_long_report, answered}
use Rattle.schema_assist.specs.Plans.{IsAssistAnswer, IsPlaceReport}
use Rattle.schema_assist.proofs.Plans.{so}
use Rattle.schema_assist.proofs.run.reply_at.Goals as goal

pub returns-then-bytes-gt-MAX_INPUT : goal.returns-then-bytes-gt-MAX_INPUT
returns-then-bytes-gt-MAX_INPUT c =
    so (IsPlaceReport c.args.place c.args.bytes.now) c.too_long.result too_long_report
    (record {
      table = c.in_ok-table.table;
      standard = c.in_ok-table.ensures;
      says = too_long (omega (arith, c.if-bytes-gt-MAX_INPUT.true));
    }) c.too_long.ensures

pub returns-in-Ok : goal.returns-in-Ok
returns-in-Ok c =
    IfOk-weaker c.text_reply.result _ _ (λ reply h.
    record {
      table = c.in_ok-table.table;
      standard = c.in_ok-table.ensures;
      says = answered (omega (arith, c.if-bytes-gt-MAX_INPUT.false)) c.in-Ok.ensures.cases.1
          (subst (λ t. IsAssistAnswer c.args.place c.in_ok-table.table t (report_of reply)) c.in-Ok.ensures.cases.0 h);
    }) c.text_reply.ensures

pub returns : goal.returns
returns c =
    so (IsPlaceReport c.args.place c.args.bytes.now) c.not_text.result not_text_report
    (record {
      table = c.in_ok-table.table;
      standard = c.in_ok-table.ensures;
      says = not_text (omega (arith, c.if-bytes-gt-MAX_INPUT.false)) c.in-Err.ensures.cases.0;
    }) c.not_text.ensures
