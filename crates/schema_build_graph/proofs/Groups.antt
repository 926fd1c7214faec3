-- Groups on top of each other.
use Rattle.std.proofs.Common.{◌≡◌, ℕ, ◌+◌, ◌-◌, ◌<◌, ◌≤◌, List, [], ◌∷◌, ◌++◌, length, length-append, get_or, take}
use Rattle.std.proofs.Common.{drop, ap, sym, ◌∙◌, subst, arith, All, Contains}
use Rattle.std.specs.List.Sorted.{IsNonDecreasingBy}
use Rattle.std.proofs.lemmas.List.{get_or_append_left, length-drop, length-take, get_or-drop, get_or-take}
use Rattle.std.proofs.lemmas.List.{get_or_default, take-append-drop}
use Rattle.std.proofs.lemmas.List.Elements.{Contains-get_or}
use Rattle.std.proofs.lemmas.List.Sorted.{IsNonDecreasingBy-take, IsNonDecreasingBy-push}
use Rattle.std.proofs.Math.Seq.{get_or-append_seam, take-append_seam}
use Rattle.schema_build_graph.specs.declared.search.Group.{Group}
use Rattle.schema_build_graph.specs.Search.{AreStacked, IsMerged}

pub all_front : {X : Type 0} (P : X → Type 0) (xs ys : List X) → All P (xs ++ ys) → All P xs
all_front P xs ys h k d lt = subst P (get_or_append_left xs ys d k lt) (h k d (omega (arith, length-append xs ys)))

pub all_last : {X : Type 0} (P : X → Type 0) (xs : List X) (y : X) → All P (xs ++ y ∷ []) → P y
all_last P xs y h = subst P (get_or-append_seam xs y [] y)
    (h (length xs) y (omega (arith, length-append xs (y ∷ []))))

front_rises : {X : Type 0} (n : X → ℕ) (xs ys : List X) → IsNonDecreasingBy n (xs ++ ys) → IsNonDecreasingBy n xs
front_rises n xs ys up = subst (IsNonDecreasingBy n) (take-append_seam xs ys)
    (IsNonDecreasingBy-take n (length xs) (xs ++ ys) up)

below_last : {X : Type 0} (n : X → ℕ) (xs : List X) (y : X) → IsNonDecreasingBy n (xs ++ y ∷ [])
    → All (λ x. n x ≤ n y) (xs ++ y ∷ [])
below_last n xs y up k d lt =
    let long : length (xs ++ y ∷ []) ≡ length xs + 1 = length-append xs (y ∷ []) in
    subst (λ x. n (get_or (xs ++ y ∷ []) k d) ≤ n x) (get_or-append_seam xs y [] d)
    (up k (length xs) d (omega arith) (omega arith))

pub stacked_front : (xs ys : List Group) → AreStacked (xs ++ ys) → AreStacked xs
stacked_front xs ys s = (front_rises (λ g. g.standing) xs ys s.0, front_rises (λ g. g.targets) xs ys s.1)

pub stacked_push : (gs : List Group) (g : Group) → AreStacked gs
    → All (λ x. (x.standing ≤ g.standing) × (x.targets ≤ g.targets)) gs → AreStacked (gs ++ g ∷ [])
stacked_push gs g s within = (
  IsNonDecreasingBy-push (λ x. x.standing) gs g s.0 (λ d lt. (within (length gs - 1) d (omega arith)).0),
  IsNonDecreasingBy-push (λ x. x.targets) gs g s.1 (λ d lt. (within (length gs - 1) d (omega arith)).1),
)

-- none begins behind the last
pub stand_below : (gs before : List Group) (g : Group) → AreStacked gs → gs ≡ before ++ g ∷ []
    → All (λ x. x.standing ≤ g.standing) gs
stand_below gs before g s e = subst (All (λ x. x.standing ≤ g.standing)) (sym e)
    (below_last (λ x. x.standing) before g (subst (IsNonDecreasingBy (λ x. x.standing)) e s.0))

pub targets_below : (gs before : List Group) (g : Group) → AreStacked gs → gs ≡ before ++ g ∷ []
    → All (λ x. x.targets ≤ g.targets) gs
targets_below gs before g s e = subst (All (λ x. x.targets ≤ g.targets)) (sym e)
    (below_last (λ x. x.targets) before g (subst (IsNonDecreasingBy (λ x. x.targets)) e s.1))

-- who stands from f on is among those that are left when f are dropped
pub among_rest : (xs : List ℕ) (f k : ℕ) → f ≤ k → k < length xs → Contains (drop f xs) (get_or xs k 0)
among_rest xs f k le lt =
    let sum : f + (k - f) ≡ k = omega arith in
    let same : get_or (drop f xs) (k - f) 0 ≡ get_or xs k 0 = get_or-drop f xs (k - f) 0
    ∙ ap (λ i. get_or xs i 0) sum in
    subst (Contains (drop f xs)) same (Contains-get_or (drop f xs) (k - f) 0 (omega (arith, length-drop f xs)))

pub place_in_rest : (xs : List ℕ) (f v : ℕ) → Contains (drop f xs) v
    → (k : ℕ) × (f ≤ k) × (k < length xs) × (get_or xs k 0 ≡ v)
place_in_rest xs f v (i, h, e) =
    let lt : f + i < length xs = omega (arith, length-drop f xs, h) in
    (f + i, omega arith, lt, get_or_default xs (f + i) 0 v lt ∙ sym (get_or-drop f xs i v) ∙ e)

pub take_wider : (xs : List ℕ) (i v : ℕ) → Contains (take i xs) v → Contains (take (i + 1) xs) v
take_wider xs i v (j, h, e) =
    let lt : j < i = omega (arith, length-take i xs, h) in (
      j,
      omega (arith, length-take i xs, length-take (i + 1) xs, h),
      get_or-take (i + 1) xs j v (omega arith)
          ∙ sym (get_or-take i xs j v lt) ∙ e,
    )

merged_at : (xs : List Group) (kept place : ℕ) → All (λ g. place < g.standing) (drop kept xs)
    → All (λ g. g.standing ≤ place) (take kept xs) → IsMerged place xs (take kept xs)
merged_at xs kept place behind front = (drop kept xs, sym (take-append-drop kept xs), behind, front)

pub merged_none : (xs : List Group) (kept place : ℕ) → kept ≡ 0 → All (λ g. place < g.standing) (drop kept xs)
    → IsMerged place xs (take kept xs)
merged_none xs kept place none behind = merged_at xs kept place behind
    (λ i d lt. absurd (omega (arith, length-take kept xs)))

pub merged_some : (xs : List Group) (kept place : ℕ) (g : Group) → AreStacked xs → kept ≤ length xs → 0 < kept
    → g ≡ get_or xs (kept - 1) g → g.standing ≤ place
    → All (λ g. place < g.standing) (drop kept xs) → IsMerged place xs (take kept xs)
merged_some xs kept place g up within some is le behind = merged_at xs kept place behind (λ i d lt.
    let less : i < kept = omega (arith, length-take kept xs) in
    let here : get_or xs (kept - 1) d ≡ g = get_or_default xs (kept - 1) d g (omega arith) ∙ sym is in
    let most : (get_or xs (kept - 1) d).standing ≤ place = subst (λ x. x.standing ≤ place) (sym here) le in
    subst (λ x. x.standing ≤ place) (sym (get_or-take kept xs i d less))
    (omega (arith, up.0 i (kept - 1) d (omega arith) (omega arith))))

pub first_of_rest : (xs : List ℕ) (f : ℕ) → get_or (drop f xs) 0 0 ≡ get_or xs f 0
first_of_rest xs f = let none : f + 0 ≡ f = omega arith in get_or-drop f xs 0 0 ∙ ap (λ i. get_or xs i 0) none
