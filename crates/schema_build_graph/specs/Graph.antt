-- A graph of numbered vertices, each with the list of its targets.
use Rattle.std.specs.Prelude.{◌≡◌, ◌<◌, ℕ, List, [], Vec, length, All, Contains, slice_get, Some}
use Rattle.std.specs.List.Sorted.{IsStrictlyIncreasing}
use Rattle.std.specs.declared.alloc.Global.{Global}
use Rattle.std.specs.Option.{option_map_or}
use Rattle.schema_build_graph.specs.Paths.{Reaches}

-- where the edges of v lead
abbrev pub targets_of : List (Vec ℕ Global) → ℕ → List ℕ
targets_of graph v = option_map_or (λ row. row.items) (slice_get graph v) []

abbrev pub HasEdge : List (Vec ℕ Global) → ℕ → ℕ → Type 0
HasEdge graph a b = Contains (targets_of graph a) b

-- each target is below n
abbrev pub InRange : ℕ → List (Vec ℕ Global) → Type 0
InRange n graph = All (λ row. All (λ v. v < n) row.items) graph

-- the vertices that a reaches, in rising order
pub record AreReached (graph : List (Vec ℕ Global)) (a : ℕ) (found : List ℕ) : Type 0 where
  pub rising : IsStrictlyIncreasing found
  pub sound : (b : ℕ) → Contains found b → Reaches (HasEdge graph) a b
  pub complete : (b : ℕ) → Reaches (HasEdge graph) a b → Contains found b

-- the row of each vertex holds what it reaches
pub record AllReached (graph rows : List (Vec ℕ Global)) : Type 0 where
  pub same : length rows ≡ length graph
  pub each : (a : ℕ) (row : Vec ℕ Global) → slice_get rows a ≡ Some row → AreReached graph a row.items
