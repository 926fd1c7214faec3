use Rattle.std.proofs.Common.{◌≡◌, length, All, take}
use Rattle.schema_build_expand.specs.Targets.{AreExpanded}
use Rattle.schema_build_expand.specs.Commons.{IsDone}
use Rattle.schema_build_expand.proofs.commons.expand_commons.Given as goal

abbrev pub invariant-loop-rank : goal.invariant-loop-rank
invariant-loop-rank g l = record {
  expanded : AreExpanded g.s l.done.items;
  long : length l.done.items ≡ length l.commons;
  finished : All (IsDone l.done.items) (take l.rank-index l.order);
}
