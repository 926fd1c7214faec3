use Rattle.schema_registry.specs.Plans.{IsRegistryPlan, usage, usage_report}
use Rattle.schema_registry.proofs.Plans.{so}
use Rattle.schema_registry.proofs.run.RegisterProgram.usage_reply.Goals as goal

pub returns : goal.returns
returns c = λ words bytes none. so (IsRegistryPlan words bytes) c.line.result usage_report (usage none) c.line.ensures
