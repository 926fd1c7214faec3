use Rattle.std.proofs.Common.{map, take}
use Rattle.schema_build_hierarchy.specs.Ranks.{AreRanksOf}
use Rattle.schema_build_hierarchy.proofs.ranks.ranks_of.Given as goal

abbrev pub invariant-loop-name : goal.invariant-loop-name
invariant-loop-name g l = AreRanksOf g.K.Ord.cmp (map (λ e. e.name) l.entries) (take l.name-index l.names) l.row.items
