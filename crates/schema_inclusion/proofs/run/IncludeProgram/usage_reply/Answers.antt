use Rattle.schema_inclusion.specs.Plans.{IsInclusionPlan, usage, usage_report}
use Rattle.schema_inclusion.proofs.Plans.{so}
use Rattle.schema_inclusion.proofs.run.IncludeProgram.usage_reply.Goals as goal

pub returns : goal.returns
returns c = λ words bytes none. so (IsInclusionPlan words bytes) c.line.result usage_report (usage none) c.line.ensures
