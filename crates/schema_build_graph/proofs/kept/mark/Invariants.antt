use Rattle.std.proofs.Common.{take}
use Rattle.schema_build_graph.specs.Needed.{MarksToo}
use Rattle.schema_build_graph.proofs.kept.mark.Given as goal

abbrev pub invariant-loop-vertex : goal.invariant-loop-vertex
invariant-loop-vertex l = MarksToo (take l.vertex-index l.vertices) l.fn.marks l.marks
