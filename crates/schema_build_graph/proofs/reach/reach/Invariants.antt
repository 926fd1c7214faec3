use Rattle.std.proofs.Common.{◌≤◌, ◌-◌, length, All, Contains, take}
use Rattle.schema_build_graph.specs.Marks.{IsMarked}
use Rattle.schema_build_graph.specs.Graph.{targets_of, HasEdge}
use Rattle.schema_build_graph.specs.Paths.{Reaches}
use Rattle.schema_build_graph.proofs.reach.reach.Given as goal

abbrev pub invariant-loop-at : goal.invariant-loop-at
invariant-loop-at l = record {
  marked : IsMarked l.stamp l.found.items l.marks;
  within : l.at ≤ length l.found.items;
  sound : All (λ v. Reaches (HasEdge l.graph) l.start v) l.found.items;
  first : All (Contains l.found.items) (targets_of l.graph l.start);
  next : All (λ v. All (Contains l.found.items) (targets_of l.graph v)) (take l.at l.found.items);
}

abbrev pub decreases-loop-at : goal.decreases-loop-at
decreases-loop-at l = length l.initial.marks - l.at
