use Rattle.std.proofs.Common.{◌≡◌, Result, sym, subst}
use Rattle.std.specs.Result.{IfOk}
use Rattle.std.specs.declared.alloc.AllocError.{AllocError}
use Rattle.std.proofs.lemmas.Result.{IfOk-weaker}
use Rattle.std.specs.Prelude.{codes}
use Rattle.cedar_runs.specs.Reports.{Report, report_of}
use Rattle.cedar_runs.specs.declared.reply.Reply.{Reply}
use Rattle.schema_same.specs.Replies.{IsSameReport, compared, first_refused, second_refused, done_report, refused_report}
use Rattle.schema_same.specs.Same.{IsSameRefusal}
use Rattle.schema_same.proofs.reply.same_reply.Goals as goal

-- the reply says what the report says
so : (P : Report → Type 0) (r : Result Reply AllocError) (report : Report) → P report
    → IfOk r (λ reply. report_of reply ≡ report) → IfOk r (λ reply. P (report_of reply))
so P r report h is = IfOk-weaker r _ _ (λ reply e. subst P (sym e) h) is

pub returns-in-Ok : goal.returns-in-Ok
returns-in-Ok c =
    so (IsSameReport c.args.table.now c.args.first.now c.args.second.now) c.done_reply.result
    (done_report c.in-Ok.same) (compared c.in-Ok.same c.in-Ok.ensures) c.done_reply.ensures

pub returns-in-Err-First : goal.returns-in-Err-First
returns-in-Err-First c =
    let refused = subst (IsSameRefusal c.args.first.now c.args.second.now c.args.table.now) c.in-Err-First.field-0-is
    c.in-Err-First.ensures in
    so (IsSameReport c.args.table.now c.args.first.now c.args.second.now) c.refused_reply.result
    (refused_report (codes "first\n") c.args.first.now c.in-Err-First.fault)
    (first_refused c.in-Err-First.fault refused.0 refused.1) c.refused_reply.ensures

pub returns-in-Err-Second : goal.returns-in-Err-Second
returns-in-Err-Second c =
    let refused = subst (IsSameRefusal c.args.first.now c.args.second.now c.args.table.now) c.in-Err-Second.field-0-is
    c.in-Err-Second.ensures in
    so (IsSameReport c.args.table.now c.args.first.now c.args.second.now) c.refused_reply-in-Err-Second.result
    (refused_report (codes "second\n") c.args.second.now c.in-Err-Second.fault)
    (second_refused c.in-Err-Second.fault refused.0 refused.1 refused.2) c.refused_reply-in-Err-Second.ensures
