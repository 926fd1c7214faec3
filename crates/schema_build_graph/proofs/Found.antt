-- The search: what is found is reached, and what is reached is found.
use Rattle.std.proofs.Common.{◌≡◌, ℕ, ◌+◌, ◌<◌, ◌≤◌, List, [], length, get_or, take, refl, ap, sym, ◌∙◌, arith, All}
use Rattle.std.proofs.Common.{Contains, Vec, subst}
use Rattle.std.specs.declared.alloc.Global.{Global}
use Rattle.std.specs.Option.{option_map_or}
use Rattle.std.specs.Ordering.{nat_cmp}
use Rattle.std.specs.List.Sorted.{IsPermutation, IsSorted}
use Rattle.std.proofs.lemmas.Option.{slice_get_read}
use Rattle.std.proofs.lemmas.List.{take_all, take-append-le, length-append}
use Rattle.std.proofs.lemmas.List.Elements.{All-append, All-weaker, All-contains, All-contains_itself, All-more}
use Rattle.std.proofs.lemmas.List.Elements.{Contains-append_left}
use Rattle.std.proofs.lemmas.List.Sorted.{Contains-permutation, IsPermutation-sym}
use Rattle.schema_build_graph.specs.Paths.{Reaches}
use Rattle.schema_build_graph.specs.Graph.{targets_of, HasEdge, AreReached}
use Rattle.schema_build_graph.specs.Marks.{AddsFrom, IsApart}
use Rattle.schema_build_graph.proofs.Paths.{reaches_one, reaches_on, reaches_within}
use Rattle.schema_build_graph.proofs.Rising.{rising}

pub targets_at : (graph : List (Vec ℕ Global)) (v : ℕ) (row : Vec ℕ Global) → v < length graph
    → row ≡ get_or graph v row → targets_of graph v ≡ row.items
targets_at graph v row h e = ap (λ o. option_map_or (λ r. r.items) o [])
    (slice_get_read graph (length graph) v row refl h e)

-- what holds before, and of each target, holds after
adds_all : (P : ℕ → Type 0) (targets before after : List ℕ) → AddsFrom targets before after → All P before
    → All P targets → All P after
adds_all P targets before after a old new = subst (All P) (sym a.1)
    (All-append P before a.0 old (All-weaker (Contains targets) P (λ w k. All-contains P targets w new k) a.0 a.2))

module _ (graph : List (Vec ℕ Global)) (start : ℕ) where
  pub sound_first : (targets after : List ℕ) → targets_of graph start ≡ targets → AddsFrom targets [] after
      → All (Reaches (HasEdge graph) start) after
  sound_first targets after e a =
      let one : All (Reaches (HasEdge graph) start) (targets_of graph start) = All-weaker
      (Contains (targets_of graph start)) (Reaches (HasEdge graph) start)
      (λ w k. reaches_one (HasEdge graph) start w k) (targets_of graph start)
      (All-contains_itself (targets_of graph start)) in
      adds_all (Reaches (HasEdge graph) start) targets [] after a (λ k d h. absurd (omega arith))
      (subst (All (Reaches (HasEdge graph) start)) e one)

  pub sound_next : (v : ℕ) (targets before after : List ℕ) → targets_of graph v ≡ targets
      → Reaches (HasEdge graph) start v → AddsFrom targets before after
      → All (Reaches (HasEdge graph) start) before → All (Reaches (HasEdge graph) start) after
  sound_next v targets before after e r a old =
      let on : All (Reaches (HasEdge graph) start) (targets_of graph v) = All-weaker (Contains (targets_of graph v))
      (Reaches (HasEdge graph) start) (λ w k. reaches_on (HasEdge graph) start v w r k) (targets_of graph v)
      (All-contains_itself (targets_of graph v)) in
      adds_all (Reaches (HasEdge graph) start) targets before after a old
      (subst (All (Reaches (HasEdge graph) start)) e on)

  -- the search is over
  pub reached : (found sorted : List ℕ) (at : ℕ) → IsApart found → IsPermutation found sorted
      → IsSorted nat_cmp sorted → length found ≤ at
      → All (Reaches (HasEdge graph) start) found → All (Contains found) (targets_of graph start)
      → All (λ v. All (Contains found) (targets_of graph v)) (take at found) → AreReached graph start sorted
  reached found sorted at apart moved up over sound first next =
      let closed : All (λ v. All (Contains found) (targets_of graph v)) found = subst
      (All (λ v. All (Contains found) (targets_of graph v))) (take_all at found over) next in
      record {
        rising = rising found sorted apart moved up;
        sound = λ b k. All-contains (Reaches (HasEdge graph) start) found b sound
            (Contains-permutation sorted found b (IsPermutation-sym found sorted moved) k);
        complete = λ b r. Contains-permutation found sorted b moved
            (reaches_within (HasEdge graph) (Contains found)
            (λ x y s e. All-contains (Contains found) (targets_of graph x) y
            (All-contains (λ v. All (Contains found) (targets_of graph v)) found x closed s) e) start
            (λ c e. All-contains (Contains found) (targets_of graph start) c first e) b r);
      }

-- what was covered stays covered, as more is found
pub still_covered : (targets ts before after : List ℕ) → AddsFrom ts before after → All (Contains before) targets
    → All (Contains after) targets
still_covered targets ts before after a all = All-weaker (Contains before) (Contains after)
    (λ w k. subst (λ f. Contains f w) (sym a.1) (Contains-append_left before a.0 w k)) targets all

pub next_covered : (graph : List (Vec ℕ Global)) (targets before after : List ℕ) (at : ℕ) → at < length before
    → targets_of graph (get_or before at 0) ≡ targets → AddsFrom targets before after
    → All (λ v. All (Contains before) (targets_of graph v)) (take at before) → All (Contains after) targets
    → All (λ v. All (Contains after) (targets_of graph v)) (take (at + 1) after)
next_covered graph targets before after at h e a old new =
    let P : ℕ → Type 0 = λ v. All (Contains after) (targets_of graph v) in
    let kept : All P (take at before) = All-weaker (λ v. All (Contains before) (targets_of graph v)) P
    (λ v all. still_covered (targets_of graph v) targets before after a all) (take at before) old in
    let more : All P (take (at + 1) before) = All-more P before at 0 h kept
    (subst (All (Contains after)) (sym e) new) in
    let same : take (at + 1) after ≡ take (at + 1) before = ap (take (at + 1)) a.1
    ∙ take-append-le (at + 1) before a.0 (omega arith) in
    subst (All P) (sym same) more

pub longer : (targets before after : List ℕ) → AddsFrom targets before after → length before ≤ length after
longer targets before after a = omega (arith, ap length a.1, length-append before a.0)
