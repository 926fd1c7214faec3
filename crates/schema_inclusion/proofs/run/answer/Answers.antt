use Rattle.std.proofs.lemmas.Result.{IfOk-weaker}
use Rattle.schema_inclusion.specs.Plans.{IsInclusionReport, two, not_two, two_texts_report}
use Rattle.schema_inclusion.proofs.Plans.{so}
use Rattle.schema_inclusion.proofs.run.answer.Goals as goal

pub returns-in-Some : goal.returns-in-Some
returns-in-Some c =
    IfOk-weaker c.texts_reply.result _ _
    (λ reply h. two c.requires c.in-Some.old.now c.in-Some.new.now c.in-Some.ensures h) c.texts_reply.ensures

pub returns-in-None : goal.returns-in-None
returns-in-None c =
    so (IsInclusionReport c.args.table.now c.args.bytes.now) c.line.result two_texts_report
    (not_two c.requires c.in-None.ensures) c.line.ensures
