-- The vertices that some are or lead to, as they are marked.
use Rattle.std.specs.Prelude.{◌≡◌, ◌⊎◌, ℕ, Bool, true, List, Vec, length, All, Contains}
use Rattle.std.specs.declared.alloc.Global.{Global}
use Rattle.schema_build_graph.specs.Graph.{targets_of, HasEdge}
use Rattle.schema_build_graph.specs.Order.{is_marked}
use Rattle.schema_build_graph.specs.Paths.{Reaches}

-- just these vertices were marked besides
pub record MarksToo (vertices : List ℕ) (before after : List Bool) : Type 0 where
  pub same : length after ≡ length before
  pub stay : (v : ℕ) → is_marked before v ≡ true → is_marked after v ≡ true
  pub marked : All (λ v. is_marked after v ≡ true) vertices
  pub only : (v : ℕ) → is_marked after v ≡ true → (is_marked before v ≡ true) ⊎ Contains vertices v

-- each target of each marked vertex is marked
abbrev pub AreAllClosed : List (Vec ℕ Global) → List Bool → Type 0
AreAllClosed graph marks = (v : ℕ) → is_marked marks v ≡ true → All (λ t. is_marked marks t ≡ true) (targets_of graph v)

-- what is marked was marked before, or is led to from what was
abbrev pub MarksLedTo : List (Vec ℕ Global) → List Bool → List Bool → Type 0
MarksLedTo graph before after = (v : ℕ) → is_marked after v ≡ true
    → (is_marked before v ≡ true) ⊎ ((u : ℕ) × (is_marked before u ≡ true) × Reaches (HasEdge graph) u v)

-- the vertex is a root, or is reached from one
abbrev pub IsWanted : List (Vec ℕ Global) → List ℕ → ℕ → Type 0
IsWanted graph roots v = Contains roots v ⊎ ((r : ℕ) × Contains roots r × Reaches (HasEdge graph) r v)
