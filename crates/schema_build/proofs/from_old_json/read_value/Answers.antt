use Rattle.std.proofs.Common.{refl, sym, subst}
use Rattle.serde_json.specs.View.{view}
use Rattle.schema_compat.specs.Causes.{IsOldValueError}
use Rattle.schema_build_checks.specs.Rows.{OrMemory}
use Rattle.schema_build.specs.OldJson.{IsUnsaid}
use Rattle.schema_build.proofs.OldJson.{unsaid}
use Rattle.schema_build.proofs.from_old_json.read_value.Goals as goal

pub returns-in-Err : goal.returns-in-Err
returns-in-Err c =
    let e = c.in-Err.error in
    subst (OrMemory (IsUnsaid (IsOldValueError (view c.args.json)))) (sym c.refusal.ensures)
    (unsaid (IsOldValueError (view c.args.json)) e.fault e refl c.in-Err.ensures)
