use Rattle.std.proofs.Common.{arith}
use Rattle.schema_build_text.proofs.Rowed.{last_rises}
use Rattle.schema_build_text.proofs.rows.is_rising.Goals as goal

pub loop-at-init : goal.loop-at-init
loop-at-init g c = (omega arith, last_rises g.T.Ord.cmp c.args.items.now)
