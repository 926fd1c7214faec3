-- The search is over: nothing stands open.
use Rattle.std.proofs.Common.{◌≡◌, ◌≢◌, ℕ, Bool, true, ◌<◌, inl, inr, List, [], length, get_or, refl, sym, ap, ◌∙◌}
use Rattle.std.proofs.Common.{subst, arith, All, Vec, None}
use Rattle.std.specs.declared.alloc.Global.{Global}
use Rattle.std.proofs.lemmas.List.Elements.{Contains-get_or}
use Rattle.std.proofs.lemmas.Bool.{cases_lt}
use Rattle.schema_build_graph.specs.Paths.{Reaches}
use Rattle.schema_build_graph.specs.Graph.{HasEdge}
use Rattle.schema_build_graph.specs.Order.{IsOrder, IsLeastCyclic, NoneCyclic}
use Rattle.schema_build_graph.specs.declared.search.State.{State}
use Rattle.schema_build_graph.specs.declared.search.State.TheVariants.{New, Done}
use Rattle.schema_build_graph.specs.declared.search.Group.{Group}
use Rattle.schema_build_graph.specs.Search.{state_at, IsSearched}
use Rattle.schema_build_graph.proofs.Rows.{edge_below}
use Rattle.schema_build_graph.proofs.States.{state_cases}

module _ (graph : List (Vec ℕ Global)) (states : List State) (standing targets : List ℕ) (groups : List Group)
    (done : List ℕ) (s : IsSearched graph states standing targets groups done None)
    (idle : groups ≡ []) (seen : (v : ℕ) → v < length graph → state_at states v ≢ New) where
  told : (v : ℕ) → v < length graph → (b : Bool) × (state_at states v ≡ Done b)
  told v h = elim (state_cases (state_at states v)) [
    | inl new ↦ absurd (seen v h new)
    | inr more ↦ elim more [
      | inl o ↦ absurd (s.based o.0 (s.was_open v o.0 h o.1).0
          (subst (All (λ g. o.0 < g.standing)) (sym idle) (λ k d lt. absurd (omega arith))))
      | inr d ↦ d
    ]
  ]

  -- who reaches itself is told to
  told_cyclic : (v : ℕ) → Reaches (HasEdge graph) v v → state_at states v ≡ Done true
  told_cyclic v r =
      let h : v < length graph = edge_below graph v r.0 r.2.0 in
      let d = told v h in
      d.1 ∙ ap Done ((s.was_done v d.0 h d.1).1.1 r)

  pub least_told : (v : ℕ) → state_at states v ≡ Done true → v < length states
      → ((u : ℕ) → u < v → state_at states u ≢ Done true) → IsLeastCyclic graph v
  least_told v e h first = record {
    cyclic = (s.was_done v true (omega (arith, s.same)) e).1.0 refl;
    least = λ u r. elim (cases_lt u v) [
      | inl lt ↦ absurd (first u lt (told_cyclic u r))
      | inr ge ↦ ge
    ];
  }

  pub none_told : ((v : ℕ) → state_at states v ≢ Done true) → NoneCyclic graph
  none_told none v r = none v (told_cyclic v r)

  pub ordered : ((v : ℕ) → state_at states v ≢ Done true) → IsOrder graph done
  ordered none = record {
    below = λ k d h. (s.is_done (get_or done k d) (Contains-get_or done k d h)).0;
    whole = λ v h. let d = told v h in (s.was_done v d.0 h d.1).0;
    behind = λ k h. elim (s.behind k h) [ inl r ↦ absurd (none_told none (get_or done k 0) r) | inr all ↦ all ];
  }
