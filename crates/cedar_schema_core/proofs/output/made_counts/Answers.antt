use Rattle.std.proofs.Common.{refl}
use Rattle.cedar_schema_core.proofs.Answered.{made_written}
use Rattle.cedar_schema_core.proofs.output.made_counts.Goals as goal

pub returns-in-Ok : goal.returns-in-Ok
returns-in-Ok c =
    made_written c.args.text.now c.args.table.now c.args.size _ c.in_ok-recovered.recovered c.in-Ok.line
    c.in_ok-recovered.ensures.recovered refl c.in-Ok.ensures
