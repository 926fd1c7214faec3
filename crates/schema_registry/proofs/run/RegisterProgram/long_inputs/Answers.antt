use Rattle.schema_registry.specs.Plans.{asked, too_long}
use Rattle.schema_registry.proofs.run.RegisterProgram.long_inputs.Goals as goal

pub returns : goal.returns
returns c = λ words bytes command asks reads long. asked command asks (too_long long)
