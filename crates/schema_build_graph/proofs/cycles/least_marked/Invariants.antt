use Rattle.std.proofs.Common.{◌≡◌, false, take, All}
use Rattle.schema_build_graph.specs.Order.{is_marked}
use Rattle.schema_build_graph.proofs.cycles.least_marked.Given as goal

abbrev pub invariant-loop-vertex : goal.invariant-loop-vertex
invariant-loop-vertex l = All (λ u. is_marked l.marks u ≡ false) (take l.vertex-index l.row)
