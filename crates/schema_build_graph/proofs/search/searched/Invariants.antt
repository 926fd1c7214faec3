use Rattle.std.proofs.Common.{◌≡◌, ◌<◌, ℕ, None, []}
use Rattle.schema_build_graph.specs.Search.{Keeps, IsSeen}
use Rattle.schema_build_graph.proofs.search.searched.Given as goal

abbrev pub invariant-loop-root : goal.invariant-loop-root
invariant-loop-root l = record {
  searched : Keeps l.graph l.search None;
  idle : l.search.groups.items ≡ [];
  whole : (v : ℕ) → v < l.root → IsSeen l.search v;
}
