use Rattle.schema_assist.specs.Plans.{IsAssistAnswer, done, done_report, no_place, no_place_report, fault, fault_report}
use Rattle.schema_assist.proofs.Plans.{so}
use Rattle.schema_assist.proofs.run.text_reply.Goals as goal

pub returns-in-Ok : goal.returns-in-Ok
returns-in-Ok c =
    so (IsAssistAnswer c.args.place c.args.table.now c.args.text.now) c.done_reply.result
    (done_report c.in-Ok.assistance)
    (done c.in_ok-known.known c.in-Ok.assistance c.in_ok-known.ensures c.in-Ok.ensures.assistance) c.done_reply.ensures

pub returns-in-Err-BadPlace : goal.returns-in-Err-BadPlace
returns-in-Err-BadPlace c =
    so (IsAssistAnswer c.args.place c.args.table.now c.args.text.now) c.line.result no_place_report
    (no_place (rw c.in-Err-BadPlace.field-0-is at c.in-Err-BadPlace.ensures.refusal)) c.line.ensures

pub returns-in-Err-Syntax : goal.returns-in-Err-Syntax
returns-in-Err-Syntax c =
    so (IsAssistAnswer c.args.place c.args.table.now c.args.text.now) c.fault_reply.result
    (fault_report c.in-Err-Syntax.error)
    (fault c.in-Err-Syntax.error (rw c.in-Err-Syntax.field-0-is at c.in-Err-Syntax.ensures.refusal))
    c.fault_reply.ensures
