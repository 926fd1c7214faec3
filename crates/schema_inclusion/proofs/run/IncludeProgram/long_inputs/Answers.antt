use Rattle.schema_inclusion.specs.Plans.{asked, too_long}
use Rattle.schema_inclusion.proofs.run.IncludeProgram.long_inputs.Goals as goal

pub returns : goal.returns
returns c = λ words bytes command asks reads long. asked command asks (too_long long)
