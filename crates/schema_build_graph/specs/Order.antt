-- Orders of the vertices in which each stands behind its targets, and vertices that reach themselves.
use Rattle.std.specs.Prelude.{◌≡◌, ◌<◌, ◌≤◌, ℕ, Bool, true, false, List, Vec, Option, None, Some, length, All, Contains}
use Rattle.std.specs.Prelude.{slice_index, slice_index_or, take}
use Rattle.std.specs.declared.alloc.Global.{Global}
use Rattle.schema_build_graph.specs.Paths.{Reaches}
use Rattle.schema_build_graph.specs.Graph.{targets_of, HasEdge}
use Rattle.schema_build_graph.specs.declared.order_fault.OrderFault.{OrderFault}
use Rattle.schema_build_graph.specs.declared.order_fault.OrderFault.TheVariants.{Cycle, Memory}

-- the targets of each stand before it
abbrev pub StandBehind : List (Vec ℕ Global) → List ℕ → Type 0
StandBehind graph order = (k : ℕ) → k < length order
    → All (Contains (take k order)) (targets_of graph (slice_index order k))

-- the list holds every vertex, each behind its targets
pub record IsOrder (graph : List (Vec ℕ Global)) (order : List ℕ) : Type 0 where
  pub below : All (λ v. v < length graph) order
  pub whole : (v : ℕ) → v < length graph → Contains order v
  pub behind : StandBehind graph order

-- the vertex reaches itself, and no lesser one does
pub record IsLeastCyclic (graph : List (Vec ℕ Global)) (v : ℕ) : Type 0 where
  pub cyclic : Reaches (HasEdge graph) v v
  pub least : (u : ℕ) → Reaches (HasEdge graph) u u → v ≤ u

-- no vertex reaches itself
abbrev pub NoneCyclic : List (Vec ℕ Global) → Type 0
NoneCyclic graph = (v : ℕ) → Reaches (HasEdge graph) v v → ⊥

-- the fault names the least vertex that reaches itself; memory may be out at any time
abbrev pub IsLeastFault : List (Vec ℕ Global) → OrderFault → Type 0
IsLeastFault graph (Cycle v) = IsLeastCyclic graph v
IsLeastFault graph Memory = Unit {0}

-- whether the vertex is marked
abbrev pub is_marked : List Bool → ℕ → Bool
is_marked marks v = slice_index_or marks v false

-- the least of the marked among these, if there is one
abbrev pub IsLeastMarked : List ℕ → List Bool → Option ℕ → Type 0
IsLeastMarked vertices marks None = All (λ u. is_marked marks u ≡ false) vertices
IsLeastMarked vertices marks (Some v) = Contains vertices v × (is_marked marks v ≡ true)
    × All (λ u. is_marked marks u ≡ true → v ≤ u) vertices

-- the least vertex that reaches itself, where one does
abbrev pub IsLeastCyclicOf : List (Vec ℕ Global) → Option ℕ → Type 0
IsLeastCyclicOf graph None = NoneCyclic graph
IsLeastCyclicOf graph (Some v) = IsLeastCyclic graph v
