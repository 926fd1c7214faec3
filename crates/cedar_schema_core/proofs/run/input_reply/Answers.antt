use Rattle.cedar_runs.specs.Reports.{not_text, not_text_report}
use Rattle.cedar_schema_core.specs.Plan.{IsInputPlan}
use Rattle.cedar_schema_core.proofs.Planned.{so, text_planned}
use Rattle.cedar_schema_core.proofs.run.input_reply.Goals as goal

pub returns-in-Ok : goal.returns-in-Ok
returns-in-Ok c =
    text_planned c.args.command.now c.in-Ok.text.now c.args.bytes.now c.text_reply.result c.in-Ok.ensures.cases.0
    c.in-Ok.ensures.cases.1 c.requires c.text_reply.ensures

pub returns-in-Err : goal.returns-in-Err
returns-in-Err c =
    so (IsInputPlan c.args.command.now c.args.bytes.now) c.not_text.result not_text_report
    (not_text c.requires c.in-Err.ensures.cases.0) c.not_text.ensures
