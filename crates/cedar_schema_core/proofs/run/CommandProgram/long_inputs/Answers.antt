use Rattle.cedar_runs.specs.Reports.{too_long}
use Rattle.cedar_schema_core.specs.Plan.{asked}
use Rattle.cedar_schema_core.proofs.run.CommandProgram.long_inputs.Goals as goal

pub returns : goal.returns
returns c = λ words bytes command asks reads long. asked command asks reads (too_long long)
