use Rattle.std.proofs.lemmas.Result.{IfOk-weaker}
use Rattle.schema_inclusion.specs.Plans.{asked}
use Rattle.schema_inclusion.proofs.run.IncludeProgram.input_reply.Goals as goal

pub returns : goal.returns
returns c = λ words asks reads.
    IfOk-weaker c.answer.result _ _ (λ reply h. asked c.args.self.now asks h) c.answer.ensures
