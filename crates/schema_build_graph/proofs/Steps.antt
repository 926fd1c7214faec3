-- One turn of the loop over the targets.
use Rattle.std.proofs.Common.{◌≡◌, ◌≢◌, ℕ, ◌+◌, ◌<◌, List, [], ◌∷◌, ◌++◌, length, get_or, take, ap, sym, ◌∙◌, subst}
use Rattle.std.proofs.Common.{All, Contains, append_assoc}
use Rattle.std.proofs.Math.ListN.{set}
use Rattle.std.proofs.lemmas.List.Elements.{All-push, All-more, All-weaker, Contains-push, Contains-append_left}
use Rattle.std.proofs.lemmas.List.Elements.{Contains-get_or}
use Rattle.schema_build_graph.specs.Marks.{IsMarked, AddsFrom}
use Rattle.schema_build_graph.proofs.Marked.{marked_one}

pub marked_more : (stamp v : ℕ) (found marks found' marks' : List ℕ) → IsMarked stamp found marks → v < length marks
    → get_or marks v 0 ≢ stamp
    → found' ≡ found ++ v ∷ [] → marks' ≡ set marks v stamp → IsMarked stamp found' marks'
marked_more stamp v found marks found' marks' m h other ef em =
    subst (λ f. IsMarked stamp f marks') (sym ef)
    (subst (λ ms. IsMarked stamp (found ++ v ∷ []) ms) (sym em) (marked_one stamp found marks v m h other))

pub marked_same : (stamp : ℕ) (found marks found' marks' : List ℕ) → IsMarked stamp found marks → found' ≡ found
    → marks' ≡ marks → IsMarked stamp found' marks'
marked_same stamp found marks found' marks' m ef em = subst (λ f. IsMarked stamp f marks') (sym ef)
    (subst (λ ms. IsMarked stamp found ms) (sym em) m)

pub added_more : (targets before found found' : List ℕ) (i : ℕ) → i < length targets → AddsFrom targets before found
    → found' ≡ found ++ get_or targets i 0 ∷ [] → AddsFrom targets before found'
added_more targets before found found' i h a e = (
  a.0 ++ get_or targets i 0 ∷ [],
  e ∙ ap (λ f. f ++ get_or targets i 0 ∷ []) a.1
      ∙ append_assoc before a.0 (get_or targets i 0 ∷ []),
  All-push (Contains targets) a.0
      (get_or targets i 0) a.2 (Contains-get_or targets i 0 h),
)

pub covers_more : (targets found found' : List ℕ) (i : ℕ) → i < length targets
    → All (Contains found) (take i targets) → found' ≡ found ++ get_or targets i 0 ∷ []
    → All (Contains found') (take (i + 1) targets)
covers_more targets found found' i h all e =
    let grown : All (Contains (found ++ get_or targets i 0 ∷ [])) (take i targets) = All-weaker (Contains found)
    (Contains (found ++ get_or targets i 0 ∷ []))
    (λ w k. Contains-append_left found (get_or targets i 0 ∷ []) w k) (take i targets) all in
    subst (λ f. All (Contains f) (take (i + 1) targets)) (sym e)
    (All-more (Contains (found ++ get_or targets i 0 ∷ [])) targets i 0 h grown
    (Contains-push found (get_or targets i 0)))

pub covers_same : (targets found : List ℕ) (i : ℕ) → i < length targets → All (Contains found) (take i targets)
    → Contains found (get_or targets i 0) → All (Contains found) (take (i + 1) targets)
covers_same targets found i h all here = All-more (Contains found) targets i 0 h all here
