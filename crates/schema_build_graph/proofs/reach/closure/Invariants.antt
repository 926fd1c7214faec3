use Rattle.std.proofs.Common.{◌≡◌, ◌<◌, ◌+◌, ℕ, All, length, Vec, Some}
use Rattle.std.specs.Prelude.{slice_get}
use Rattle.std.specs.declared.alloc.Global.{Global}
use Rattle.schema_build_graph.specs.Graph.{AreReached}
use Rattle.schema_build_graph.proofs.reach.closure.Given as goal

abbrev pub invariant-loop-start : goal.invariant-loop-start
invariant-loop-start l = record {
  long : length l.marks.items ≡ length l.graph;
  fresh : All (λ m. m < l.start + 1) l.marks.items;
  same : length l.rows.items ≡ l.start;
  each : (a : ℕ) (row : Vec ℕ Global) → slice_get l.rows.items a ≡ Some row → AreReached l.graph a row.items;
}
