use Rattle.schema_json_walk.specs.Visits.{part_of}
use Rattle.schema_build_expand.proofs.Ranked.{adds_nothing, never_at}
use Rattle.std.proofs.Common.{refl}
use Rattle.schema_build_expand.proofs.ranks.RankFinderVisitor.visit.Goals as goal

pub returns-in_default : goal.returns-in_default
returns-in_default g c =
    let finder = c.args.self.now in
    let s = g.R.Meanings.scope finder.names.now in
    let ns = g.R.Meanings.place finder.names.now in
    record {
      taken = (
        refl,
        adds_nothing s ns (part_of c.args.part) finder.ranks.items
            (never_at s ns c.args.part c.in_default.not-TypeReference),
      );
      refused = tt;
    }
