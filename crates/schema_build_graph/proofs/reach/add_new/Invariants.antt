use Rattle.std.proofs.Common.{All, Contains, take}
use Rattle.schema_build_graph.specs.Marks.{IsMarked, AddsFrom}
use Rattle.schema_build_graph.proofs.reach.add_new.Given as goal

abbrev pub invariant-loop-target : goal.invariant-loop-target
invariant-loop-target l = record {
  marked : IsMarked l.stamp l.found.items l.marks;
  added : AddsFrom l.targets l.initial.found.items l.found.items;
  covers : All (Contains l.found.items) (take l.target-index l.targets);
}
