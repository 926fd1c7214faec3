use Rattle.schema_inclusion.proofs.Plans.{one_include}
use Rattle.schema_inclusion.proofs.run.IncludeProgram.one_command.Goals as goal

pub returns : goal.returns
returns c = one_include c.one_table.ensures
