use Rattle.std.proofs.Common.{None, ap, ◌∙◌}
use Rattle.schema_json_io.specs.Advice.{beside}
use Rattle.schema_compat.proofs.Causes.{conversion_error}
use Rattle.schema_compat.proofs.read.converted.Goals as goal

pub returns-in-Err : goal.returns-in-Err
returns-in-Err c =
    conversion_error c.args.old c.in-Err.fault c.with_advice.result (c.with_advice.ensures.fault ∙ c.of_shape.ensures)
    (c.with_advice.ensures.advice ∙ ap (λ f. beside f None) c.of_shape.ensures) c.in-Err.ensures
