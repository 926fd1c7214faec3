use Rattle.std.proofs.Common.{subst}
use Rattle.std.proofs.lemmas.Result.{IfOk-weaker}
use Rattle.cedar_runs.specs.Reports.{report_of, not_text, not_text_report, answered}
use Rattle.schema_assist.specs.Plans.{IsAssistAnswer, IsAssistPlan, asked}
use Rattle.schema_assist.proofs.Plans.{so}
use Rattle.schema_assist.proofs.run.AssistAtProgram.input_reply.Goals as goal

pub returns-in-Ok : goal.returns-in-Ok
returns-in-Ok c = λ words asks reads.
    let self = c.args.self.now in
    IfOk-weaker c.text_reply.result _ _ (λ reply h.
    asked self asks (answered c.requires c.in-Ok.ensures.cases.1
    (subst (λ t. IsAssistAnswer self.place self.table t (report_of reply)) c.in-Ok.ensures.cases.0 h)))
    c.text_reply.ensures

pub returns-in-Err : goal.returns-in-Err
returns-in-Err c = λ words asks reads.
    so (IsAssistPlan words c.args.bytes.now) c.not_text.result not_text_report
    (asked c.args.self.now asks (not_text c.requires c.in-Err.ensures.cases.0)) c.not_text.ensures
