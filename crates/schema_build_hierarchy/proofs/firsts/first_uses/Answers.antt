use Rattle.std.proofs.lemmas.List.Filters.{dedup_is}
use Rattle.schema_build_hierarchy.proofs.Once.{firsts_are}
use Rattle.schema_build_hierarchy.proofs.firsts.first_uses.Goals as goal

pub returns : goal.returns
returns g c =
    let sorted = c.sort.new.self.items in
    firsts_are g.met.T.Ord.total g.T.PartialEq.eq g.met.T.Ord.matches_eq c.args.uses.items sorted
    c.dedup.new.self.items c.in_ok-sort.ensures.permutation c.in_ok-sort.ensures.stable c.in_ok-sort.ensures.sorted
    (dedup_is g.T.PartialEq.eq sorted c.dedup.new.self.items c.dedup.ensures.filtered)
