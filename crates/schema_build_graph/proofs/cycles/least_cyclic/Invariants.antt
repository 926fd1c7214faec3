use Rattle.std.proofs.Common.{◌<◌, ℕ}
use Rattle.schema_build_graph.specs.Graph.{HasEdge}
use Rattle.schema_build_graph.proofs.cycles.least_cyclic.Given as goal

abbrev pub invariant-loop-vertex : goal.invariant-loop-vertex
invariant-loop-vertex l = (u : ℕ) → u < l.vertex-counter → HasEdge l.rows u u → ⊥
