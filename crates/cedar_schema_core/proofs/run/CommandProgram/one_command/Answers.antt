use Rattle.cedar_schema_core.proofs.OnePlan.{one_command}
use Rattle.cedar_schema_core.proofs.run.CommandProgram.one_command.Goals as goal

pub returns : goal.returns
returns c = one_command
