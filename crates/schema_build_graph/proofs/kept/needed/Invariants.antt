use Rattle.std.proofs.Common.{◌≡◌, ◌<◌, ℕ, true, length, take, All, Contains}
use Rattle.schema_build_graph.specs.Order.{StandBehind, is_marked}
use Rattle.schema_build_graph.proofs.kept.needed.Given as goal

abbrev pub invariant-loop-vertex : goal.invariant-loop-vertex
invariant-loop-vertex l = record {
  below : All (λ v. v < length l.graph) l.kept.items;
  behind : StandBehind l.graph l.kept.items;
  whole : (v : ℕ) → Contains (take l.vertex-index l.order) v → is_marked l.marks.items v ≡ true
      → Contains l.kept.items v;
  only : All (λ v. is_marked l.marks.items v ≡ true) l.kept.items;
}
