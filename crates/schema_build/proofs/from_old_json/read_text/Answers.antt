use Rattle.std.proofs.Common.{refl, sym, subst}
use Rattle.schema_compat.specs.Causes.{IsOldTextError}
use Rattle.schema_build_checks.specs.Rows.{OrMemory}
use Rattle.schema_build.specs.OldJson.{IsUnsaid}
use Rattle.schema_build.proofs.OldJson.{unsaid}
use Rattle.schema_build.proofs.from_old_json.read_text.Goals as goal

pub returns-in-Err : goal.returns-in-Err
returns-in-Err c =
    let e = c.in-Err.error in
    subst (OrMemory (IsUnsaid (IsOldTextError c.args.json.now))) (sym c.refusal.ensures)
    (unsaid (IsOldTextError c.args.json.now) e.fault e refl c.in-Err.ensures)
