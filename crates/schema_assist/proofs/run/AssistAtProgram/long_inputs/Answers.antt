use Rattle.cedar_runs.specs.Reports.{too_long}
use Rattle.schema_assist.specs.Plans.{asked}
use Rattle.schema_assist.proofs.run.AssistAtProgram.long_inputs.Goals as goal

pub returns : goal.returns
returns c = λ words bytes command asks reads long. asked command asks (too_long long)
