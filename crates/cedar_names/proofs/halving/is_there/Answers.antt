use Rattle.std.proofs.Common.{sym}
use Rattle.cedar_names.proofs.Halved.{hit, miss}
use Rattle.cedar_names.proofs.halving.is_there.Goals as goal

pub returns-in-Ok-clause-there : goal.returns-in-Ok-clause-there
returns-in-Ok-clause-there g c = sym (hit (g.S.Sought.place c.args.sought.now) c.args.items.now _ c.in-Ok.ensures.found)

pub returns-in-Err-clause-there : goal.returns-in-Err-clause-there
returns-in-Err-clause-there g c =
    sym (miss (g.S.Sought.place c.args.sought.now) c.args.items.now _ c.in-Err.ensures.absent)
