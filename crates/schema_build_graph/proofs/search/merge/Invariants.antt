use Rattle.std.proofs.Common.{◌<◌, ◌≤◌, length, drop, All}
use Rattle.schema_build_graph.proofs.search.merge.Given as goal

abbrev pub invariant-loop-kept : goal.invariant-loop-kept
invariant-loop-kept l = record {
  within : l.kept ≤ length l.groups.items;
  behind : All (λ g. l.place < g.standing) (drop l.kept l.groups.items);
}

abbrev pub decreases-loop-kept : goal.decreases-loop-kept
decreases-loop-kept l = l.kept
