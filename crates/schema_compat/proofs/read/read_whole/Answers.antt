use Rattle.std.proofs.Common.{sym, subst}
use Rattle.serde_json.specs.View.{view}
use Rattle.schema_json_io.specs.Causes.{IsValueCauseBy}
use Rattle.schema_compat.specs.Causes.{IsReadFault}
use Rattle.schema_compat.proofs.Causes.{read_cause}
use Rattle.schema_compat.proofs.read.read_whole.Goals as goal

pub returns-in-Err : goal.returns-in-Err
returns-in-Err c =
    let d = view c.args.value.now in
    subst (IsValueCauseBy IsReadFault d) (sym c.of_shape.ensures)
    (read_cause d c.in-Err.fault c.requires c.in-Err.ensures)
