use Rattle.std.proofs.Common.{◌≡◌, ◌⊎◌, ℕ, length, take, All, Contains}
use Rattle.schema_build_graph.specs.declared.search.State.TheVariants.{Done}
use Rattle.schema_build_graph.specs.Search.{state_at}
use Rattle.schema_build_graph.proofs.search.mark_done.Given as goal

abbrev pub invariant-loop-vertex : goal.invariant-loop-vertex
invariant-loop-vertex l = record {
  same : length l.states ≡ length l.fn.states;
  marked : All (λ v. state_at l.states v ≡ Done l.cyclic) (take l.vertex-index l.vertices);
  others : (v : ℕ) → (Contains (take l.vertex-index l.vertices) v → ⊥) → state_at l.states v ≡ state_at l.fn.states v;
  each : (v : ℕ) → (state_at l.states v ≡ Done l.cyclic) ⊎ (state_at l.states v ≡ state_at l.fn.states v);
}
