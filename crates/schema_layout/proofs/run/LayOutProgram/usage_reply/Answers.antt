use Rattle.schema_layout.specs.Plans.{IsLayoutPlan, usage, usage_report}
use Rattle.schema_layout.proofs.Plans.{so}
use Rattle.schema_layout.proofs.run.LayOutProgram.usage_reply.Goals as goal

pub returns : goal.returns
returns c = λ words bytes none. so (IsLayoutPlan words bytes) c.line.result usage_report (usage none) c.line.ensures
