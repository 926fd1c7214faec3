use Rattle.schema_inclusion.proofs.Ran.{run_done}
use Rattle.schema_inclusion.proofs.run.run_inclusion.Goals as goal

pub returns-clause-done : goal.returns-clause-done
returns-clause-done g c = λ d. run_done _ _ _ _ c.run_program.result c.run_program.ensures.run d
