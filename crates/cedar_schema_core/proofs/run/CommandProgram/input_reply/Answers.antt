use Rattle.std.proofs.lemmas.Result.{IfOk-weaker}
use Rattle.cedar_schema_core.specs.Plan.{asked}
use Rattle.cedar_schema_core.proofs.run.CommandProgram.input_reply.Goals as goal

pub returns : goal.returns
returns c = λ words asks reads.
    IfOk-weaker c.input_reply.result _ _ (λ reply h. asked c.args.self.now asks reads h) c.input_reply.ensures
