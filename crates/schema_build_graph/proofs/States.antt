-- States of vertices, as they are written.
use Rattle.std.proofs.Common.{◌≡◌, ◌≢◌, ℕ, Bool, zero, suc, ◌+◌, ◌<◌, ◌≤◌, ◌⊎◌, inl, inr, List, [], ◌∷◌, length, get_or}
use Rattle.std.proofs.Common.{take, refl, sym, ap, ◌∙◌, subst, arith, All, Contains, Vec}
use Rattle.std.specs.declared.alloc.Global.{Global}
use Rattle.std.proofs.Math.ListN.{set}
use Rattle.std.proofs.lemmas.List.{get_or-set_same, get_or-set_other}
use Rattle.std.proofs.lemmas.List.Elements.{All-more, All-weaker}
use Rattle.std.proofs.lemmas.Bool.{cases_eq}
use Rattle.schema_build_graph.specs.declared.search.State.{State}
use Rattle.schema_build_graph.specs.declared.search.State.TheVariants.{New, Open, Done}
use Rattle.schema_build_graph.specs.declared.search.Group.{Group}
use Rattle.schema_build_graph.specs.Search.{state_at, cost_of, fresh, weight}
use Rattle.schema_build_graph.proofs.Groups.{take_wider}

pub other_state : (states : List State) (v w : ℕ) (new : State) → v ≢ w
    → state_at (set states v new) w ≡ state_at states w
other_state states v w new other = get_or-set_other states v w new New (λ e. other (sym e))

pub state_cases : (s : State) → (s ≡ New) ⊎ (((k : ℕ) × (s ≡ Open k)) ⊎ ((b : Bool) × (s ≡ Done b)))
state_cases New = inl refl
state_cases (Open k) = inr (inl (k, refl))
state_cases (Done b) = inr (inr (b, refl))

still_marked : (states : List State) (w v : ℕ) (b : Bool) → w < length states → state_at states v ≡ Done b
    → state_at (set states w (Done b)) v ≡ Done b
still_marked states w v b h e = elim (cases_eq w v) [
  | inl here ↦ subst (λ u. state_at (set states w (Done b)) u ≡ Done b) here (get_or-set_same states w (Done b) New h)
  | inr other ↦ other_state states w v (Done b) other ∙ e
]

-- one more of the vertices is marked
pub marked_next : (states : List State) (vertices : List ℕ) (i : ℕ) (b : Bool) → i < length vertices
    → get_or vertices i 0 < length states
    → All (λ v. state_at states v ≡ Done b) (take i vertices)
    → All (λ v. state_at (set states (get_or vertices i 0) (Done b)) v ≡ Done b) (take (i + 1) vertices)
marked_next states vertices i b lt h all =
    let P : ℕ → Type 0 = λ v. state_at (set states (get_or vertices i 0) (Done b)) v ≡ Done b in
    All-more P vertices i 0 lt
    (All-weaker (λ v. state_at states v ≡ Done b) P (λ v e. still_marked states (get_or vertices i 0) v b h e)
    (take i vertices) all)
    (get_or-set_same states (get_or vertices i 0) (Done b) New h)

pub others_next : (old states : List State) (vertices : List ℕ) (i : ℕ) (new : State) → i < length vertices
    → Contains (take (i + 1) vertices) (get_or vertices i 0)
    → ((v : ℕ) → (Contains (take i vertices) v → ⊥) → state_at states v ≡ state_at old v)
    → (v : ℕ) → (Contains (take (i + 1) vertices) v → ⊥)
    → state_at (set states (get_or vertices i 0) new) v ≡ state_at old v
others_next old states vertices i new lt here same v none =
    other_state states (get_or vertices i 0) v new (λ e. none (subst (Contains (take (i + 1) vertices)) e here))
    ∙ same v (λ c. none (take_wider vertices i v c))

pub each_next : (old states : List State) (w : ℕ) (b : Bool) → w < length states
    → ((v : ℕ) → (state_at states v ≡ Done b) ⊎ (state_at states v ≡ state_at old v))
    → (v : ℕ) → (state_at (set states w (Done b)) v ≡ Done b) ⊎ (state_at (set states w (Done b)) v ≡ state_at old v)
each_next old states w b h each v = elim (each v) [
  | inl e ↦ inl (still_marked states w v b h e)
  | inr e ↦ elim (cases_eq w v) [
    | inl here ↦ inl (subst (λ u. state_at (set states w (Done b)) u ≡ Done b) here
        (get_or-set_same states w (Done b) New h))
    | inr other ↦ inr (other_state states w v (Done b) other ∙ e)
  ]
]

-- one state is written
pub fresh-set : (graph : List (Vec ℕ Global)) (states : List State) (v : ℕ) (new : State) (row : Vec ℕ Global)
    (d : State) → v < length graph → v < length states
    → fresh graph (set states v new) + cost_of (get_or graph v row)
    (get_or states v d) ≡ fresh graph states + cost_of (get_or graph v row) new
fresh-set [] states v new row d h k = absurd (omega arith)
fresh-set (r ∷ graph) [] v new row d h k = absurd (omega arith)
fresh-set (r ∷ graph) (s ∷ states) zero new row d h k = omega arith
fresh-set (r ∷ graph) (s ∷ states) (suc v) new row d h k = omega
    (arith, fresh-set graph states v new row d (omega arith) (omega arith))

cost_done : (row : Vec ℕ Global) (s : State) (b : Bool) → cost_of row (Done b) ≤ cost_of row s
cost_done row s b = omega arith

cost_kept : (row : Vec ℕ Global) (s t : State) (b : Bool) → (s ≡ Done b) ⊎ (s ≡ t) → cost_of row s ≤ cost_of row t
cost_kept row s t b h = elim h [ inl e ↦ rw e (cost_done row t b) | inr e ↦ rw e (omega arith) ]

-- where more is done, less is fresh
pub fresh_less : (graph : List (Vec ℕ Global)) (old new : List State) (b : Bool) → length new ≡ length old
    → ((v : ℕ) → (state_at new v ≡ Done b) ⊎ (state_at new v ≡ state_at old v)) → fresh graph new ≤ fresh graph old
fresh_less [] old new b same each = omega arith
fresh_less (r ∷ graph) [] [] b same each = omega arith
fresh_less (r ∷ graph) [] (t ∷ new) b same each = absurd (omega arith)
fresh_less (r ∷ graph) (s ∷ old) [] b same each = absurd (omega arith)
fresh_less (r ∷ graph) (s ∷ old) (t ∷ new) b same each = omega
    (arith, cost_kept r t s b (each 0), fresh_less graph old new b (omega arith) (λ v. each (suc v)))

-- a new vertex costs its targets and two more
pub weight_opened : (graph : List (Vec ℕ Global)) (states : List State) (v k : ℕ) (row : Vec ℕ Global)
    (targets targets' : List ℕ) (groups groups' : List Group) → v < length graph → v < length states
    → row ≡ get_or graph v row → state_at states v ≡ New → length targets' ≡ length targets + length row.items
    → length groups' ≡ length groups + 1
    → weight graph (set states v (Open k)) targets' groups' < weight graph states targets groups
weight_opened graph states v k row targets targets' groups groups' h lt at new wider one =
    let cost : cost_of (get_or graph v row) (get_or states v New) ≡ length row.items + 2 = ap
    (λ s. cost_of (get_or graph v row) s) new ∙ ap (λ r. cost_of r New) (sym at) in
    omega (arith, fresh-set graph states v (Open k) row New h lt, cost, wider, one)

pub weight_closed : (graph : List (Vec ℕ Global)) (old new : List State) (b : Bool) (targets : List ℕ)
    (groups before : List Group) → length new ≡ length old
    → ((v : ℕ) → (state_at new v ≡ Done b) ⊎ (state_at new v ≡ state_at old v)) → length before + 1 ≡ length groups
    → weight graph new targets before < weight graph old targets groups
weight_closed graph old new b targets groups before same each one = omega
    (arith, fresh_less graph old new b same each, one)
