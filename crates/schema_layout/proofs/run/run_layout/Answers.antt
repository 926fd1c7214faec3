use Rattle.schema_layout.proofs.Ran.{run_done}
use Rattle.schema_layout.proofs.run.run_layout.Goals as goal

pub returns-clause-done : goal.returns-clause-done
returns-clause-done g c = λ d.
    run_done c.laid_schemas_stay.ensures.pieces c.laid_schemas_stay.ensures.schema c.laid_schemas_stay.ensures.fixed
    _ _ _ _ c.run_program.result c.run_program.ensures.run d
