use Rattle.std.proofs.Common.{arith}
use Rattle.cedar_runs.specs.Reports.{too_long, too_long_report}
use Rattle.cedar_schema_core.specs.Plan.{IsInputPlan}
use Rattle.cedar_schema_core.proofs.Planned.{so}
use Rattle.cedar_schema_core.proofs.run.reply_to.Goals as goal

pub returns-then-bytes-gt-MAX_INPUT : goal.returns-then-bytes-gt-MAX_INPUT
returns-then-bytes-gt-MAX_INPUT c =
    so (IsInputPlan c.args.command.now c.args.bytes.now) c.too_long.result too_long_report (too_long (omega arith))
    c.too_long.ensures
