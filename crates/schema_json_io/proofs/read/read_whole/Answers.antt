use Rattle.std.proofs.Common.{sym, subst}
use Rattle.serde_json.specs.View.{view}
use Rattle.schema_json_io.specs.Causes.{IsValueCause}
use Rattle.schema_json_io.proofs.Causes.{value_cause}
use Rattle.schema_json_io.proofs.read.read_whole.Goals as goal

pub returns-in-Err : goal.returns-in-Err
returns-in-Err c =
    let d = view c.args.value.now in
    subst (IsValueCause d) (sym c.of_shape.ensures)
    (value_cause d c.in-Err.fault c.requires c.in-Err.ensures)
