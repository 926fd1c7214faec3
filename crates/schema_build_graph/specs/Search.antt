-- What the search for cycles keeps, in terms of its own state: groups of vertices that stand open and reach each other,
-- one leading to the next, and the vertices that are done. No contract of a public call speaks of it.
use Rattle.std.specs.Prelude.{◌≡◌, ◌<◌, ◌≤◌, ◌+◌, ◌⊎◌, ℕ, Bool, true, List, [], ◌∷◌, ◌++◌, ◌≢◌, Vec, length, All}
use Rattle.std.specs.Prelude.{Contains, slice_index, slice_index_or, take, Option, Some, None}
use Rattle.std.specs.Bool.{Decides}
use Rattle.std.specs.List.Sorted.{IsNonDecreasingBy}
use Rattle.std.specs.declared.alloc.Global.{Global}
use Rattle.schema_build_graph.specs.Paths.{Reaches}
use Rattle.schema_build_graph.specs.Graph.{targets_of, HasEdge}
use Rattle.schema_build_graph.specs.declared.search.State.{State}
use Rattle.schema_build_graph.specs.declared.search.State.TheVariants.{New, Open, Done}
use Rattle.schema_build_graph.specs.declared.search.Group.{Group}
use Rattle.schema_build_graph.specs.declared.search.Search.{Search}

abbrev pub state_at : List State → ℕ → State
state_at states v = slice_index_or states v New

-- no group begins behind the place k and at most at l: where k is less than l, one group holds both
abbrev pub NoneBetween : List Group → ℕ → ℕ → Type 0
NoneBetween groups k l = All (λ g. (g.standing ≤ k) ⊎ (l < g.standing)) groups

-- t stands, in the group of the place k or in a later one
abbrev pub IsSeated : List Group → List ℕ → ℕ → ℕ → Type 0
IsSeated groups standing k t = (l : ℕ) × (l < length standing) × (slice_index standing l ≡ t) × NoneBetween groups l k

-- t is among the targets that were not looked at, in the group of the place k or in a later one
abbrev pub IsPending : List Group → List ℕ → ℕ → ℕ → Type 0
IsPending groups targets k t = (j : ℕ) × (j < length targets) × (slice_index targets j ≡ t)
    × All (λ g. g.standing ≤ k → g.targets ≤ j) groups

-- the target at j belongs to a vertex of its group
abbrev pub HasSource : List (Vec ℕ Global) → List Group → List ℕ → List ℕ → ℕ → Type 0
HasSource graph groups standing targets j = (k : ℕ) × (k < length standing)
    × HasEdge graph (slice_index standing k) (slice_index targets j)
    × All (λ g. (g.standing ≤ k → g.targets ≤ j) × (g.targets ≤ j → g.standing ≤ k)) groups

-- later groups begin later
abbrev pub AreStacked : List Group → Type 0
AreStacked groups = IsNonDecreasingBy (λ g. g.standing) groups × IsNonDecreasingBy (λ g. g.targets) groups

-- the groups that begin behind the place were cut off
abbrev pub IsMerged : ℕ → List Group → List Group → Type 0
IsMerged place groups kept = (more : List Group) × (groups ≡ kept ++ more) × All (λ g. place < g.standing) more
    × All (λ g. g.standing ≤ place) kept

-- each stands behind its targets, but for those that reach themselves
abbrev pub StandBehindOrCyclic : List (Vec ℕ Global) → List ℕ → Type 0
StandBehindOrCyclic graph order = (k : ℕ) → k < length order
    → Reaches (HasEdge graph) (slice_index order k) (slice_index order k)
    ⊎ All (Contains (take k order)) (targets_of graph (slice_index order k))

-- one vertex may be the next to look at
pub record IsSearched (graph : List (Vec ℕ Global)) (states : List State) (standing targets : List ℕ)
    (groups : List Group) (done : List ℕ) (next : Option ℕ) : Type 0 where
  pub same : length states ≡ length graph
  pub is_open : (k : ℕ) → k < length standing
      → (slice_index standing k < length graph) × (state_at states (slice_index standing k) ≡ Open k)
  pub was_open : (v k : ℕ) → v < length graph → state_at states v ≡ Open k
      → (k < length standing) × (slice_index standing k ≡ v)
  pub is_done : (v : ℕ) → Contains done v → (v < length graph) × ((cyclic : Bool) × (state_at states v ≡ Done cyclic))
  pub was_done : (v : ℕ) (cyclic : Bool) → v < length graph → state_at states v ≡ Done cyclic
      → Contains done v × Decides cyclic (Reaches (HasEdge graph) v v)
  pub closed : (x y : ℕ) → Contains done x → HasEdge graph x y → Contains done y
  pub behind : StandBehindOrCyclic graph done
  pub on : (k l : ℕ) → k < l → l < length standing
      → Reaches (HasEdge graph) (slice_index standing k) (slice_index standing l)
  pub back : (k l : ℕ) → k < l → l < length standing → NoneBetween groups k l
      → Reaches (HasEdge graph) (slice_index standing l) (slice_index standing k)
  pub looked : (k t : ℕ) → k < length standing → HasEdge graph (slice_index standing k) t
      → Contains done t ⊎ (IsSeated groups standing k t ⊎ (IsPending groups targets k t ⊎ (next ≡ Some t)))
  pub from : (j : ℕ) → j < length targets → HasSource graph groups standing targets j
  pub stacked : AreStacked groups
  pub within : All (λ g. (g.standing ≤ length standing) × (g.targets ≤ length targets)) groups
  pub based : (k : ℕ) → k < length standing → All (λ g. k < g.standing) groups → ⊥
  pub leads : (k v : ℕ) → k < length standing → next ≡ Some v → Reaches (HasEdge graph) (slice_index standing k) v
  pub range : (v : ℕ) → next ≡ Some v → v < length graph

-- what a vertex may still cost
abbrev pub cost_of : Vec ℕ Global → State → ℕ
cost_of row New = length row.items + 2
cost_of row _ = 0

abbrev pub fresh : List (Vec ℕ Global) → List State → ℕ
fresh [] states = 0
fresh (row ∷ rows) [] = 0
fresh (row ∷ rows) (s ∷ states) = cost_of row s + fresh rows states

-- it falls with each turn
abbrev pub weight : List (Vec ℕ Global) → List State → List ℕ → List Group → ℕ
weight graph states targets groups = fresh graph states + length targets + length groups

-- the search, as the code holds it, stands as it must, and this vertex may be the next to look at
abbrev pub Keeps : List (Vec ℕ Global) → Search → Option ℕ → Type 0
Keeps graph s next = IsSearched graph s.states.items s.standing.items s.targets.items s.groups.items s.done.items next

abbrev pub weight_of : List (Vec ℕ Global) → Search → ℕ
weight_of graph s = weight graph s.states.items s.targets.items s.groups.items

-- the search has come to the vertex
abbrev pub IsSeen : Search → ℕ → Type 0
IsSeen s v = state_at s.states.items v ≢ New

abbrev pub AllSeen : Search → Search → Type 0
AllSeen before after = (v : ℕ) → IsSeen before v → IsSeen after v

-- the first vertex that is told to reach itself
abbrev pub IsFirstCyclic : List State → Option ℕ → Type 0
IsFirstCyclic states None = (v : ℕ) → state_at states v ≢ Done true
IsFirstCyclic states (Some v) = (state_at states v ≡ Done true) × (v < length states)
    × ((u : ℕ) → u < v → state_at states u ≢ Done true)
