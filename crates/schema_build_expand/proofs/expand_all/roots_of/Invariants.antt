use Rattle.std.proofs.Common.{◌<◌, length, take, All}
use Rattle.schema_build_expand.specs.Uses.{AreRanksAmong}
use Rattle.schema_build_expand.proofs.expand_all.roots_of.Given as goal

abbrev pub invariant-loop-names : goal.invariant-loop-names
invariant-loop-names g l = record {
  below : All (λ k. k < length g.s.commons) l.roots.items;
  among : AreRanksAmong g.s g.R.Meanings.place (take l.names-index l.uses) l.roots.items;
}
