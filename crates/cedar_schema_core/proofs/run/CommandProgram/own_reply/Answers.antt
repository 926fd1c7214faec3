use Rattle.cedar_schema_core.proofs.Words.{sized}
use Rattle.cedar_schema_core.proofs.run.CommandProgram.own_reply.Goals as goal

pub own_text_of-requires : goal.own_text_of-requires
own_text_of-requires c = sized c.requires.asked.0 c.args.self.now c.requires.asked.1
