-- The rows of a closure are a graph whose edges are the chains of the first.
use Rattle.std.proofs.Common.{◌≡◌, ℕ, ◌<◌, inl, inr, List, [], length, refl, arith, Contains, Vec, Option, Some, None}
use Rattle.std.specs.Prelude.{slice_get}
use Rattle.std.specs.declared.alloc.Global.{Global}
use Rattle.std.specs.Option.{option_map_or}
use Rattle.std.proofs.lemmas.Bool.{cases_lt}
use Rattle.std.proofs.lemmas.Option.{slice_get_cases}
use Rattle.schema_build_graph.specs.Paths.{Reaches}
use Rattle.schema_build_graph.specs.Graph.{HasEdge, AllReached}
use Rattle.schema_build_graph.specs.Order.{IsLeastCyclicOf}
use Rattle.schema_build_graph.proofs.Rows.{edge_below}

module _ (graph rows : List (Vec ℕ Global)) (all : AllReached graph rows) where
  sound_in : (a b : ℕ) (row : Option (Vec ℕ Global)) → slice_get rows a ≡ row
      → Contains (option_map_or (λ r. r.items) row []) b → Reaches (HasEdge graph) a b
  sound_in a b None e c = absurd (let lt : c.0 < 0 = c.1 in omega arith)
  sound_in a b (Some row) e c = (all.each a row e).sound b c

  complete_in : (a b : ℕ) (row : Option (Vec ℕ Global)) → slice_get rows a ≡ row → a < length rows
      → Reaches (HasEdge graph) a b → Contains (option_map_or (λ r. r.items) row []) b
  complete_in a b None e lt r = absurd (elim (slice_get_cases rows a).1 [
    | inl x ↦ (let there : slice_get rows a ≡ Some x.0 = x.2 in cc)
    | inr p ↦ omega (arith, p.0)
  ])
  complete_in a b (Some row) e lt r = (all.each a row e).complete b r

  edge_of : (a b : ℕ) → Reaches (HasEdge graph) a b → HasEdge rows a b
  edge_of a b r = complete_in a b (slice_get rows a) refl (omega (arith, edge_below graph a r.0 r.2.0, all.same)) r

  pub none_of : ((u : ℕ) → u < length rows → HasEdge rows u u → ⊥) → IsLeastCyclicOf graph None
  none_of none v r = none v (edge_below rows v v (edge_of v v r)) (edge_of v v r)

  pub least_of : (v : ℕ) → HasEdge rows v v → ((u : ℕ) → u < v → HasEdge rows u u → ⊥)
      → IsLeastCyclicOf graph (Some v)
  least_of v e none = record {
    cyclic = sound_in v v (slice_get rows v) refl e;
    least = λ u r. elim (cases_lt u v) [ inl lt ↦ absurd (none u lt (edge_of u u r)) | inr ge ↦ ge ];
  }
