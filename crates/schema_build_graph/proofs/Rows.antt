-- Rows, one after the other.
use Rattle.std.proofs.Common.{◌≡◌, ℕ, ◌+◌, ◌<◌, ◌≤◌, List, [], ◌∷◌, ◌++◌, length, get_or, take, drop, refl, ap, sym}
use Rattle.std.proofs.Common.{◌∙◌, arith, subst, append-nil, Option, Some, None, inl, inr, All, Contains, Vec}
use Rattle.std.specs.Prelude.{slice_get}
use Rattle.std.specs.declared.alloc.Global.{Global}
use Rattle.std.specs.Option.{option_map_or}
use Rattle.std.proofs.lemmas.List.Elements.{All-contains}
use Rattle.schema_build_graph.specs.Graph.{HasEdge, InRange}
use Rattle.std.proofs.lemmas.List.{take_all, drop_all, get_or_append_left, length-append}
use Rattle.std.proofs.Math.Seq.{get_or-append_seam}
use Rattle.std.proofs.lemmas.Bool.{cases_lt}
use Rattle.std.proofs.lemmas.Option.{slice_get_within, get_or_from_slice_get, slice_get_read}

-- a list of numbers that is written whole
pub written : {X : Type 0} (old new : List X) (n : ℕ) → length new ≡ length old → length old ≤ n
    → take n (new ++ drop (length new) old) ≡ new
written old new n e h = ap (λ r. take n (new ++ r)) (drop_all (length new) old (omega arith))
    ∙ ap (take n) (append-nil new) ∙ take_all n new (omega arith)

-- a list that is written whole twice
pub written_twice : {X : Type 0} (old first second : List X) (n : ℕ) → length first ≡ length old
    → length second ≡ length first → length old ≤ n
    → take n (second ++ drop (length second) (take n (first ++ drop (length first) old))) ≡ second
written_twice old first second n e f h = ap (λ xs. take n (second ++ drop (length second) xs))
    (written old first n e h) ∙ written first second n f (omega arith)

pub each_push : {X : Type 0} (P : ℕ → X → Type 0) (xs ys : List X) (x : X) (n : ℕ) → length xs ≡ n
    → ys ≡ xs ++ x ∷ [] → ((k : ℕ) (y : X) → slice_get xs k ≡ Some y → P k y) → P n x
    → (k : ℕ) (y : X) → slice_get ys k ≡ Some y → P k y
each_push {X} P xs ys x n e grown old new k y at =
    let within : k < length ys = slice_get_within ys k y at in
    let long : length ys ≡ n + 1 = ap length grown ∙ length-append xs (x ∷ []) ∙ ap (λ m. m + 1) e in
    let here : get_or (xs ++ x ∷ []) k y ≡ y = ap (λ zs. get_or zs k y) (sym grown)
    ∙ get_or_from_slice_get ys k y y at in
    elim (cases_lt k n) [
      | inl a ↦ old k y (slice_get_read xs (length xs) k y refl (omega arith)
          (sym here ∙ get_or_append_left xs (x ∷ []) y k (omega arith)))
      | inr b ↦
          let last : k ≡ length xs = omega arith in
          let same : x ≡ y = sym (get_or-append_seam xs x [] y) ∙ ap (λ i. get_or (xs ++ x ∷ []) i y) (sym last)
          ∙ here in
          subst (λ i. P i y) (sym (last ∙ e)) (subst (P n) same new)
    ]

row_in_range : (graph : List (Vec ℕ Global)) (n x t : ℕ) (row : Option (Vec ℕ Global)) → slice_get graph x ≡ row
    → InRange n graph → Contains (option_map_or (λ r. r.items) row []) t → t < n
row_in_range graph n x t None e range c = absurd (let lt : c.0 < 0 = c.1 in omega arith)
row_in_range graph n x t (Some row) e range c =
    let all : All (λ v. v < n) (get_or graph x row).items = range x row (slice_get_within graph x row e) in
    All-contains (λ v. v < n) row.items t
    (subst (λ r. All (λ v. v < n) r.items) (get_or_from_slice_get graph x row row e) all) c

-- a target is a vertex
pub edge_in_range : (graph : List (Vec ℕ Global)) (x t : ℕ) → InRange (length graph) graph → HasEdge graph x t
    → t < length graph
edge_in_range graph x t range e = row_in_range graph (length graph) x t (slice_get graph x) refl range e

row_below : (graph : List (Vec ℕ Global)) (x y : ℕ) (row : Option (Vec ℕ Global)) → slice_get graph x ≡ row
    → Contains (option_map_or (λ r. r.items) row []) y → x < length graph
row_below graph x y None e c = absurd (let lt : c.0 < 0 = c.1 in omega arith)
row_below graph x y (Some row) e c = slice_get_within graph x row e

-- only vertices have edges
pub edge_below : (graph : List (Vec ℕ Global)) (x y : ℕ) → HasEdge graph x y → x < length graph
edge_below graph x y e = row_below graph x y (slice_get graph x) refl e
