use Rattle.schema_assist.specs.Plans.{IsAssistPlan, usage, usage_report}
use Rattle.schema_assist.proofs.Plans.{so}
use Rattle.schema_assist.proofs.run.AssistAtProgram.usage_reply.Goals as goal

pub returns : goal.returns
returns c = λ words bytes none. so (IsAssistPlan words bytes) c.line.result usage_report (usage none) c.line.ensures
