use Rattle.schema_assist.proofs.Plans.{one_at}
use Rattle.schema_assist.proofs.run.AssistAtProgram.one_command.Goals as goal

pub returns : goal.returns
returns c = one_at c.one_table.ensures
