use Rattle.std.specs.Str.{encode_utf8_all}
use Rattle.cedar_schema_core.specs.Plan.{IsAnswer, done, done_report}
use Rattle.cedar_schema_core.proofs.Planned.{so, refused_answer}
use Rattle.cedar_schema_core.proofs.run.text_reply.Goals as goal

pub returns-in-Ok : goal.returns-in-Ok
returns-in-Ok c =
    let out = encode_utf8_all c.in-Ok.output.text in
    let warnings = c.in-Ok.output.warnings.items in
    so (IsAnswer c.args.command.now c.args.text.now) c.done_reply.result (done_report out warnings)
    (done out warnings c.in-Ok.ensures) c.done_reply.ensures

pub returns-in-Err : goal.returns-in-Err
returns-in-Err c =
    refused_answer c.args.command.now c.args.text.now c.in-Err.fault c.refused_reply.result c.in-Err.ensures
    c.refused_reply.ensures
