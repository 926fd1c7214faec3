use Rattle.std.proofs.Common.{◌<◌, ◌≢◌, ℕ, true}
use Rattle.schema_build_graph.specs.declared.search.State.TheVariants.{Done}
use Rattle.schema_build_graph.specs.Search.{state_at}
use Rattle.schema_build_graph.proofs.cycles.first_cyclic.Given as goal

abbrev pub invariant-loop-vertex : goal.invariant-loop-vertex
invariant-loop-vertex l = (u : ℕ) → u < l.vertex → state_at l.states u ≢ Done true
