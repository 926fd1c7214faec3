use Rattle.schema_resolve.proofs.Told.{entity_told}
use Rattle.schema_resolve.proofs.rename_items.rename_entity.Goals as goal

pub returns-clause-defined : goal.returns-clause-defined
returns-clause-defined g c = rw (entity_told (g.R.Renamer.untargeted c.args.renamer.now) c.args.entity.now)
    c.in_ok-rename_kind.ensures.defined
