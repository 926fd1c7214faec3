-- What is marked is led to from a root.
use Rattle.std.proofs.Common.{◌≡◌, ℕ, zero, suc, Bool, true, false, List, refl, replicate, subst, sym, Contains, inl}
use Rattle.std.proofs.Common.{inr}
use Rattle.std.specs.Prelude.{Vec}
use Rattle.std.specs.declared.alloc.Global.{Global}
use Rattle.schema_build_graph.specs.Graph.{HasEdge, targets_of}
use Rattle.schema_build_graph.specs.Needed.{IsWanted, MarksLedTo, MarksToo}
use Rattle.schema_build_graph.specs.Order.{is_marked}
use Rattle.schema_build_graph.proofs.Paths.{reaches_one, reaches_on}

module _ (graph : List (Vec ℕ Global)) where
  pub led_more : (before old new : List Bool) (vertex : ℕ) (targets : List ℕ) → is_marked old vertex ≡ true
      → targets_of graph vertex ≡ targets → MarksToo targets old new → MarksLedTo graph before old
      → MarksLedTo graph before new
  led_more before old new vertex targets on same e led v m = elim (e.only v m) [
    | inl was ↦ led v was
    | inr t ↦
        let edge : HasEdge graph vertex v = subst (λ ts. Contains ts v) (sym same) t in
        elim (led vertex on) [
          | inl b ↦ inr (vertex, b, reaches_one (HasEdge graph) vertex v edge)
          | inr r ↦ inr (r.0, r.1, reaches_on (HasEdge graph) r.0 vertex v r.2 edge)
        ]
  ]

  pub wanted : (roots : List ℕ) (none old new : List Bool) → ((v : ℕ) → is_marked none v ≡ true → ⊥)
      → MarksToo roots none old → MarksLedTo graph old new → (v : ℕ) → is_marked new v ≡ true → IsWanted graph roots v
  wanted roots none old new empty e led v m = elim (led v m) [
    | inl was ↦ elim (e.only v was) [
      | inl before ↦ absurd (empty v before)
      | inr root ↦ inl root
    ]
    | inr r ↦ elim (e.only r.0 r.1) [
      | inl before ↦ absurd (empty r.0 before)
      | inr root ↦ inr (r.0, root, r.2)
    ]
  ]

pub none_marked : (n v : ℕ) → is_marked (replicate n false) v ≡ false
none_marked zero v = refl
none_marked (suc n) zero = refl
none_marked (suc n) (suc v) = none_marked n v
