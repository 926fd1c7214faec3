-- The marked vertices of an order: what they lead to is marked from the last to the first, and they are kept in order.
use Rattle.std.proofs.Common.{◌≡◌, ◌⊎◌, ℕ, Bool, true, false, ◌+◌, ◌-◌, ◌<◌, ◌≤◌, inl, inr, List, [], ◌∷◌, ◌++◌, length}
use Rattle.std.proofs.Common.{get_or, take, sym, subst, arith, All, Contains, Vec}
use Rattle.std.specs.declared.alloc.Global.{Global}
use Rattle.std.proofs.Math.Seq.{get_or-append_seam, take-append_seam}
use Rattle.std.proofs.lemmas.List.{get_or_append_left, get_or_past, length-append, take-append-le, take_all, take_more}
use Rattle.std.proofs.lemmas.List.Elements.{All-contains, All-push, All-weaker, Contains-append_left, Contains-push}
use Rattle.std.proofs.lemmas.List.Elements.{Contains-push_cases}
use Rattle.std.proofs.lemmas.Bool.{cases_lt}
use Rattle.schema_build_graph.specs.Graph.{targets_of}
use Rattle.schema_build_graph.specs.Order.{IsOrder, StandBehind, is_marked}
use Rattle.schema_build_graph.specs.Needed.{AreAllClosed, MarksToo}

marked_within : (marks : List Bool) (v : ℕ) → is_marked marks v ≡ true → v < length marks
marked_within marks v m = elim (cases_lt v (length marks)) [
  | inl lt ↦ lt
  | inr ge ↦ absurd (let none : is_marked marks v ≡ false = get_or_past marks v false ge in cc)
]

-- one of the first, where one more is looked at
front_cases : (order : List ℕ) (left v : ℕ) → 0 < left → left ≤ length order → Contains (take left order) v
    → Contains (take (left - 1) order) v ⊎ (get_or order (left - 1) 0 ≡ v)
front_cases order left v some within c =
    let next : (left - 1) + 1 ≡ left = omega arith in
    let c' : Contains (take ((left - 1) + 1) order) v = subst (λ n. Contains (take n order) v) (sym next) c in
    Contains-push_cases (take (left - 1) order) (get_or order (left - 1) 0) v
    (subst (λ xs. Contains xs v) (take_more order (left - 1) 0 (omega arith)) c')

module _ (graph : List (Vec ℕ Global)) (order : List ℕ) (o : IsOrder graph order) where
  -- the targets of each marked vertex are marked, but for the first of the order, which were not looked at
  abbrev pub IsOpenFront : ℕ → List Bool → Type 0
  IsOpenFront left marks = (v : ℕ) → is_marked marks v ≡ true
      → Contains (take left order) v ⊎ All (λ t. is_marked marks t ≡ true) (targets_of graph v)

  pub open_first : (marks : List Bool) → length marks ≡ length graph → IsOpenFront (length order) marks
  open_first marks same v m =
      inl (subst (λ xs. Contains xs v) (sym (take_all (length order) order (omega arith)))
      (o.whole v (omega (arith, marked_within marks v m, same))))

  pub open_marked : (left : ℕ) (old new : List Bool) (targets : List ℕ) → 0 < left → left ≤ length order
      → targets_of graph (get_or order (left - 1) 0) ≡ targets → MarksToo targets old new → IsOpenFront left old
      → IsOpenFront (left - 1) new
  open_marked left old new targets some within same e front v m = elim (e.only v m) [
    | inl was ↦ elim (front v was) [
      | inl c ↦ elim (front_cases order left v some within c) [
        | inl before ↦ inl before
        | inr here ↦ inr (subst (λ x. All (λ t. is_marked new t ≡ true) (targets_of graph x)) here
            (subst (All (λ t. is_marked new t ≡ true)) (sym same) e.marked))
      ]
      | inr all ↦ inr (All-weaker (λ t. is_marked old t ≡ true) (λ t. is_marked new t ≡ true) e.stay
          (targets_of graph v) all)
    ]
    | inr t ↦ inl (All-contains (Contains (take (left - 1) order)) targets v
        (subst (All (Contains (take (left - 1) order))) same (o.behind (left - 1) (omega arith))) t)
  ]

  pub open_unmarked : (left : ℕ) (marks : List Bool) → 0 < left → left ≤ length order
      → is_marked marks (get_or order (left - 1) 0) ≡ false → IsOpenFront left marks → IsOpenFront (left - 1) marks
  open_unmarked left marks some within off front v m = elim (front v m) [
    | inl c ↦ elim (front_cases order left v some within c) [
      | inl before ↦ inl before
      | inr here ↦ absurd (let on : is_marked marks (get_or order (left - 1) 0) ≡ true =
          subst (λ x. is_marked marks x ≡ true) (sym here) m in cc)
    ]
    | inr all ↦ inr all
  ]

  pub all_closed : (left : ℕ) (marks : List Bool) → left ≡ 0 → IsOpenFront left marks → AreAllClosed graph marks
  all_closed left marks none front v m = elim (front v m) [
    | inl c ↦ absurd (let c' : Contains (take 0 order) v = subst (λ n. Contains (take n order) v) none c in
        let lt : c'.0 < 0 = c'.1 in omega arith)
    | inr all ↦ all
  ]

  -- one more that stands behind its targets
  pub behind_more : (kept : List ℕ) (v : ℕ) → StandBehind graph kept → All (Contains kept) (targets_of graph v)
      → StandBehind graph (kept ++ v ∷ [])
  behind_more kept v old new k h = elim (cases_lt k (length kept)) [
    | inl lt ↦ rw (take-append-le k kept (v ∷ []) (omega arith), get_or_append_left kept (v ∷ []) 0 k lt) (old k lt)
    | inr ge ↦
        let last : length kept ≡ k = omega (arith, length-append kept (v ∷ [])) in
        subst (λ i. All (Contains (take i (kept ++ v ∷ []))) (targets_of graph (get_or (kept ++ v ∷ []) i 0))) last
        (rw (take-append_seam kept (v ∷ []), get_or-append_seam kept v [] 0) new)
  ]

  module _ (marks : List Bool) (closed : AreAllClosed graph marks) (kept : List ℕ) (i : ℕ) (lt : i < length order)
      (whole : (v : ℕ) → Contains (take i order) v → is_marked marks v ≡ true → Contains kept v) where
    next_cases : (v : ℕ) → Contains (take (i + 1) order) v → Contains (take i order) v ⊎ (get_or order i 0 ≡ v)
    next_cases v c = Contains-push_cases (take i order) (get_or order i 0) v
        (subst (λ xs. Contains xs v) (take_more order i 0 lt) c)

    pub whole_more : (v : ℕ) → Contains (take (i + 1) order) v → is_marked marks v ≡ true
        → Contains (kept ++ get_or order i 0 ∷ []) v
    whole_more v c m = elim (next_cases v c) [
      | inl before ↦ Contains-append_left kept (get_or order i 0 ∷ []) v (whole v before m)
      | inr here ↦ subst (Contains (kept ++ get_or order i 0 ∷ [])) here (Contains-push kept (get_or order i 0))
    ]

    pub whole_same : is_marked marks (get_or order i 0) ≡ false → (v : ℕ) → Contains (take (i + 1) order) v
        → is_marked marks v ≡ true → Contains kept v
    whole_same off v c m = elim (next_cases v c) [
      | inl before ↦ whole v before m
      | inr here ↦ absurd (let on : is_marked marks (get_or order i 0) ≡ true =
          subst (λ x. is_marked marks x ≡ true) (sym here) m in cc)
    ]

    pub kept_more : is_marked marks (get_or order i 0) ≡ true → StandBehind graph kept
        → StandBehind graph (kept ++ get_or order i 0 ∷ [])
    kept_more on behind = behind_more kept (get_or order i 0) behind (λ k d h.
        whole (get_or (targets_of graph (get_or order i 0)) k d) (o.behind i lt k d h)
        (closed (get_or order i 0) on k d h))

    pub below_more : All (λ v. v < length graph) kept → All (λ v. v < length graph) (kept ++ get_or order i 0 ∷ [])
    below_more below = All-push (λ v. v < length graph) kept (get_or order i 0) below (o.below i 0 lt)
