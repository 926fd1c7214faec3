use Rattle.cedar_schema_core.specs.Plan.{IsPlan, usage, usage_report}
use Rattle.cedar_schema_core.proofs.Planned.{so}
use Rattle.cedar_schema_core.proofs.run.CommandProgram.usage_reply.Goals as goal

pub returns : goal.returns
returns c = λ words bytes none. so (IsPlan words bytes) c.line.result usage_report (usage none) c.line.ensures
