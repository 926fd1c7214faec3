use Rattle.schema_registry.proofs.Plans.{one_register}
use Rattle.schema_registry.proofs.run.RegisterProgram.one_command.Goals as goal

pub returns : goal.returns
returns c = one_register c.one_table.ensures
