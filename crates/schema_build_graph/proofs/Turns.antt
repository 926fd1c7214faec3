-- One turn of the search keeps what it keeps: a target is taken, and it is done, or new, or stands open.
use Rattle.std.proofs.Common.{◌≡◌, ◌≢◌, ℕ, ◌+◌, ◌-◌, ◌<◌, ◌≤◌, ◌⊎◌, inl, inr, Bool, List, [], ◌∷◌, ◌++◌, length}
use Rattle.std.proofs.Common.{length-append, get_or, take, refl, sym, ap, ◌∙◌, subst, arith, All, Contains, Vec, Some}
use Rattle.std.proofs.Common.{None}
use Rattle.std.specs.declared.alloc.Global.{Global}
use Rattle.std.proofs.Math.ListN.{set}
use Rattle.std.proofs.lemmas.List.{length-set, length-take, get_or-set_same, get_or_append_left, get_or-take}
use Rattle.std.proofs.lemmas.List.{get_or_default, get_or-append-add}
use Rattle.std.proofs.lemmas.List.Elements.{All-push, All-weaker, All-append, Contains-get_or}
use Rattle.std.proofs.lemmas.Bool.{cases_lt, cases_eq}
use Rattle.std.proofs.Math.Seq.{get_or-append_seam, get_or-append_right}
use Rattle.schema_build_graph.specs.Paths.{Reaches}
use Rattle.schema_build_graph.specs.Graph.{targets_of, HasEdge, InRange}
use Rattle.schema_build_graph.specs.declared.search.State.{State}
use Rattle.schema_build_graph.specs.declared.search.State.TheVariants.{New, Open, Done}
use Rattle.schema_build_graph.specs.declared.search.Group.{Group}
use Rattle.schema_build_graph.specs.Search.{state_at, NoneBetween, IsSeated, IsPending, HasSource, AreStacked, IsMerged}
use Rattle.schema_build_graph.specs.Search.{IsSearched}
use Rattle.schema_build_graph.proofs.Paths.{reaches_one, reaches_on, reaches_through}
use Rattle.schema_build_graph.proofs.Groups.{all_front, all_last, stacked_front, stacked_push, stand_below}
use Rattle.schema_build_graph.proofs.Groups.{targets_below}
use Rattle.schema_build_graph.proofs.States.{other_state}
use Rattle.schema_build_graph.proofs.Rows.{edge_in_range}

module _ (graph : List (Vec ℕ Global)) (states : List State) (standing targets : List ℕ) (groups : List Group)
    (done : List ℕ) where
  -- a root is the next to look at, where nothing stands
  pub rooted : (root : ℕ) → root < length graph → groups ≡ []
      → IsSearched graph states standing targets groups done None
      → IsSearched graph states standing targets groups done (Some root)
  rooted root lt none s = record {
    same = s.same;
    is_open = s.is_open;
    was_open = s.was_open;
    is_done = s.is_done;
    was_done = s.was_done;
    closed = s.closed;
    behind = s.behind;
    on = s.on;
    back = s.back;
    looked = λ k t h e. absurd
        (s.based k h (subst (All (λ g. k < g.standing)) (sym none) (λ i d l. absurd (omega arith))));
    from = s.from;
    stacked = s.stacked;
    within = s.within;
    based = s.based;
    leads = λ k v h e. absurd
        (s.based k h (subst (All (λ g. k < g.standing)) (sym none) (λ i d l. absurd (omega arith))));
    range = λ v e. subst (λ x. x < length graph) (let same : root ≡ v = cc in same) lt;
  }

  -- the last target of the last group is the next to look at
  module _ (s : IsSearched graph states standing targets groups done None) (before : List Group) (g : Group)
      (last : groups ≡ before ++ g ∷ []) (some : g.targets < length targets)
      (n : ℕ) (end' : n + 1 ≡ length targets) (range : get_or targets n 0 < length graph) where
    source : HasSource graph groups standing targets n
    source = s.from n (omega arith)

    source_last : g.standing ≤ source.0
    source_last = (all_last
        (λ x. (x.standing ≤ source.0 → x.targets ≤ n) × (x.targets ≤ n → x.standing ≤ source.0)) before g
        (subst (All (λ x. (x.standing ≤ source.0 → x.targets ≤ n)
        × (x.targets ≤ n → x.standing ≤ source.0))) last source.3)).1 (omega arith)

    leads_next : (k : ℕ) → k < length standing → Reaches (HasEdge graph) (get_or standing k 0) (get_or targets n 0)
    leads_next k h = elim (cases_lt k source.0) [
      | inl lt ↦ reaches_on (HasEdge graph) (get_or standing k 0) (get_or standing source.0 0) (get_or targets n 0)
          (s.on k source.0 lt source.1) source.2
      | inr ge ↦ elim (cases_lt source.0 k) [
        | inl lt ↦ reaches_on (HasEdge graph) (get_or standing k 0) (get_or standing source.0 0) (get_or targets n 0)
            (s.back source.0 k lt h
            (All-weaker (λ x. x.standing ≤ g.standing) (λ x. (x.standing ≤ source.0) ⊎ (k < x.standing))
            (λ x le. inl (omega (arith, source_last))) groups (stand_below groups before g s.stacked last)))
            source.2
        | inr le ↦ let same : source.0 ≡ k = omega arith in
            reaches_one (HasEdge graph) (get_or standing k 0) (get_or targets n 0)
            (subst (λ i. HasEdge graph (get_or standing i 0) (get_or targets n 0)) same source.2)
      ]
    ]

    popped : IsSearched graph states standing (take n targets) groups done (Some (get_or targets n 0))
    popped = record {
      same = s.same;
      is_open = s.is_open;
      was_open = s.was_open;
      is_done = s.is_done;
      was_done = s.was_done;
      closed = s.closed;
      behind = s.behind;
      on = s.on;
      back = s.back;
      looked = λ k t h e. elim (s.looked k t h e) [
        | inl c ↦ inl c
        | inr more ↦ elim more [
          | inl p ↦ inr (inl p)
          | inr more ↦ elim more [
            | inl q ↦ elim (cases_lt q.0 n) [
              | inl lt ↦ inr (inr (inl
                  (q.0, omega (arith, length-take n targets), get_or-take n targets q.0 0 lt ∙ q.2, q.3)))
              | inr ge ↦ let last : n ≡ q.0 = omega (arith, q.1) in inr
                  (inr (inr (ap Some (ap (λ i. get_or targets i 0) last ∙ q.2))))
            ]
            | inr e ↦ absurd (cc)
          ]
        ]
      ];
      from = λ j h.
          let lt : j < n = omega (arith, length-take n targets) in
          let src = s.from j (omega arith) in (
            src.0,
            src.1,
            subst (HasEdge graph (get_or standing src.0 0))
                (sym (get_or-take n targets j 0 lt)) src.2,
            src.3,
          );
      stacked = s.stacked;
      within = λ i d lt. (
        (s.within i d lt).0,
        omega
            (arith, length-take n targets, targets_below groups before g s.stacked last i d lt),
      );
      based = s.based;
      leads = λ k v h e. subst (Reaches (HasEdge graph) (get_or standing k 0))
          (let same : get_or targets n 0 ≡ v = cc in same) (leads_next k h);
      range = λ v e. subst (λ x. x < length graph) (let same : get_or targets n 0 ≡ v = cc in same) range;
    }

  pub taken : (s : IsSearched graph states standing targets groups done None) (before : List Group) (g : Group)
      (last : groups ≡ before ++ g ∷ []) → InRange (length graph) graph → (k t : ℕ) (left : List ℕ)
      → k ≡ length targets → g.targets ≢ length targets → t ≡ get_or targets (k - 1) t → left ≡ take (k - 1) targets
      → IsSearched graph states standing left groups done (Some t)
  taken s before g last range k t left e other at is =
      let top = all_last (λ x. (x.standing ≤ length standing) × (x.targets ≤ length targets)) before g
      (subst (All (λ x. (x.standing ≤ length standing) × (x.targets ≤ length targets))) last s.within) in
      let some : g.targets < length targets = omega (arith, top.1, other) in
      let src = s.from (k - 1) (omega arith) in
      let within : get_or targets (k - 1) 0 < length graph = edge_in_range graph (get_or standing src.0 0)
      (get_or targets (k - 1) 0) range src.2 in
      let here : t ≡ get_or targets (k - 1) 0 = at ∙ get_or_default targets (k - 1) t 0 (omega arith) in
      rw (is, here) (popped s before g last some (k - 1) (omega arith) within)

  module _ (v : ℕ) (s : IsSearched graph states standing targets groups done (Some v)) where
    pub below : v < length graph
    below = s.range v refl

    -- what is done is passed over
    pub skipped : (b : Bool) → state_at states v ≡ Done b → IsSearched graph states standing targets groups done None
    skipped b is = record {
      same = s.same;
      is_open = s.is_open;
      was_open = s.was_open;
      is_done = s.is_done;
      was_done = s.was_done;
      closed = s.closed;
      behind = s.behind;
      on = s.on;
      back = s.back;
      looked = λ k t h e. elim (s.looked k t h e) [
        | inl c ↦ inl c
        | inr more ↦ elim more [
          | inl p ↦ inr (inl p)
          | inr more ↦ elim more [
            | inl q ↦ inr (inr (inl q))
            | inr e ↦ inl (subst (Contains done) (let same : v ≡ t = cc in same) (s.was_done v b below is).0)
          ]
        ]
      ];
      from = s.from;
      stacked = s.stacked;
      within = s.within;
      based = s.based;
      leads = λ k w h e. absurd (cc);
      range = λ w e. absurd (cc);
    }

    -- what stands open is in one group with all that stand behind it
    module _ (p : ℕ) (is : state_at states v ≡ Open p) (kept : List Group) (m : IsMerged p groups kept) where
      here : (p < length standing) × (get_or standing p 0 ≡ v)
      here = s.was_open v p below is

      of_kept : (P : Group → Type 0) → All P groups → All P kept
      of_kept P all = all_front P kept m.0 (subst (All P) m.1 all)

      of_all : (P : Group → Type 0) → All P kept → All P m.0 → All P groups
      of_all P front more = subst (All P) (sym m.1) (All-append P kept m.0 front more)

      back : (k l : ℕ) → k < l → l < length standing → NoneBetween kept k l
          → Reaches (HasEdge graph) (get_or standing l 0) (get_or standing k 0)
      back k l lt h none =
          let to_p : Reaches (HasEdge graph) (get_or standing l 0) (get_or standing p 0) = subst
          (Reaches (HasEdge graph) (get_or standing l 0)) (sym here.1) (s.leads l v h refl) in
          elim (cases_lt l p) [
            | inl lp ↦ s.back k l lt h
                (of_all (λ g. (g.standing ≤ k) ⊎ (l < g.standing)) none
                (All-weaker (λ g. p < g.standing) (λ g. (g.standing ≤ k) ⊎ (l < g.standing))
                (λ g b. inr (omega arith)) m.0 m.2))
            | inr pl ↦ elim (cases_lt p k) [
              | inl pk ↦ reaches_through (HasEdge graph) (get_or standing l 0) (get_or standing p 0)
                  (get_or standing k 0) to_p (s.on p k pk (omega arith))
              | inr kp ↦ elim (cases_lt k p) [
                | inl lt ↦ reaches_through (HasEdge graph) (get_or standing l 0) (get_or standing p 0)
                    (get_or standing k 0) to_p
                    (s.back k p lt here.0 (of_all (λ g. (g.standing ≤ k) ⊎ (p < g.standing))
                    (λ i d h. elim (none i d h) [
                      | inl le ↦ inl le
                      | inr gt ↦ absurd
                          (let front : (get_or kept i d).standing ≤ p = m.3 i d h in omega arith)
                    ])
                    (All-weaker (λ g. p < g.standing) (λ g. (g.standing ≤ k) ⊎ (p < g.standing))
                    (λ g b. inr b) m.0 m.2)))
                | inr ge ↦ let same : p ≡ k = omega arith in subst
                    (λ i. Reaches (HasEdge graph) (get_or standing l 0) (get_or standing i 0)) same to_p
              ]
            ]
          ]

      pub merged : IsSearched graph states standing targets kept done None
      merged = record {
        same = s.same;
        is_open = s.is_open;
        was_open = s.was_open;
        is_done = s.is_done;
        was_done = s.was_done;
        closed = s.closed;
        behind = s.behind;
        on = s.on;
        back = back;
        looked = λ k t h e. elim (s.looked k t h e) [
          | inl c ↦ inl c
          | inr more ↦ elim more [
            | inl q ↦ inr (inl (q.0, q.1, q.2, of_kept (λ g. (g.standing ≤ q.0) ⊎ (k < g.standing)) q.3))
            | inr more ↦ elim more [
              | inl q ↦ inr (inr (inl (q.0, q.1, q.2, of_kept (λ g. g.standing ≤ k → g.targets ≤ q.0) q.3)))
              | inr e ↦ inr (inl (
                p,
                here.0,
                here.1
                    ∙ (let same : v ≡ t = cc in same),
                All-weaker (λ g. g.standing ≤ p)
                    (λ g. (g.standing ≤ p) ⊎ (k < g.standing)) (λ g b. inl b) kept m.3,
              ))
            ]
          ]
        ];
        from = λ j h. let src = s.from j h in (
          src.0,
          src.1,
          src.2,
          of_kept
              (λ g. (g.standing ≤ src.0 → g.targets ≤ j) × (g.targets ≤ j → g.standing ≤ src.0)) src.3,
        );
        stacked = stacked_front kept m.0 (subst AreStacked m.1 s.stacked);
        within = of_kept (λ g. (g.standing ≤ length standing) × (g.targets ≤ length targets)) s.within;
        based = λ k h all. elim (cases_lt p k) [
          | inl pk ↦ s.based p here.0
              (of_all (λ g. p < g.standing)
              (All-weaker (λ g. k < g.standing) (λ g. p < g.standing) (λ g b. omega arith) kept all) m.2)
          | inr kp ↦ s.based k h
              (of_all (λ g. k < g.standing) all
              (All-weaker (λ g. p < g.standing) (λ g. k < g.standing) (λ g b. omega arith) m.0 m.2))
        ];
        leads = λ k w h e. absurd (cc);
        range = λ w e. absurd (cc);
      }

    -- what is new begins a group
    module _ (new : state_at states v ≡ New) where
      inside : v < length states
      inside = omega (arith, below, s.same)

      now : state_at (set states v (Open (length standing))) v ≡ Open (length standing)
      now = get_or-set_same states v (Open (length standing)) New inside

      old_at : (k : ℕ) → k < length standing → get_or (standing ++ v ∷ []) k 0 ≡ get_or standing k 0
      old_at k lt = get_or_append_left standing (v ∷ []) 0 k lt

      new_at : (k : ℕ) → k ≡ length standing → get_or (standing ++ v ∷ []) k 0 ≡ v
      new_at k e = ap (λ i. get_or (standing ++ v ∷ []) i 0) e ∙ get_or-append_seam standing v [] 0

      longer : length (standing ++ v ∷ []) ≡ length standing + 1
      longer = length-append standing (v ∷ [])

      wider : length (targets ++ targets_of graph v) ≡ length targets + length (targets_of graph v)
      wider = length-append targets (targets_of graph v)

      all_in : (P : Group → Type 0)
          → ((x : Group) → (x.standing ≤ length standing) × (x.targets ≤ length targets) → P x)
          → P (record { standing = length standing; targets = length targets })
          → All P (groups ++ record { standing = length standing; targets = length targets } ∷ [])
      all_in P weaker here = All-push P groups (record { standing = length standing; targets = length targets })
          (All-weaker (λ x. (x.standing ≤ length standing)
          × (x.targets ≤ length targets)) P weaker groups s.within) here

      is_open : (k : ℕ) → k < length (standing ++ v ∷ [])
          → (get_or (standing ++ v ∷ []) k 0 < length graph)
          × (state_at (set states v (Open (length standing))) (get_or (standing ++ v ∷ []) k 0) ≡ Open k)
      is_open k h = elim (cases_lt k (length standing)) [
        | inl lt ↦
            let old = s.is_open k lt in
            let other : v ≢ get_or standing k 0 = λ e. let was : state_at states v ≡ Open k = subst
            (λ x. state_at states x ≡ Open k) (sym e) old.1 in cc in
            subst (λ x. (x < length graph) × (state_at (set states v (Open (length standing))) x ≡ Open k))
            (sym (old_at k lt)) (
              old.0,
              other_state states v (get_or standing k 0)
                  (Open (length standing)) other ∙ old.1,
            )
        | inr ge ↦
            let last : k ≡ length standing = omega (arith, longer) in
            subst (λ x. (x < length graph) × (state_at (set states v (Open (length standing))) x ≡ Open k))
            (sym (new_at k last)) (below, now ∙ ap Open (sym last))
      ]

      was_open : (w k : ℕ) → w < length graph → state_at (set states v (Open (length standing))) w ≡ Open k
          → (k < length (standing ++ v ∷ [])) × (get_or (standing ++ v ∷ []) k 0 ≡ w)
      was_open w k h e = elim (cases_eq v w) [
        | inl same ↦
            let here : state_at (set states v (Open (length standing))) w ≡ Open (length standing) = subst
            (λ x. state_at (set states v (Open (length standing))) x ≡ Open (length standing)) same now in
            let last : k ≡ length standing = cc in
            (omega (arith, longer), new_at k last ∙ same)
        | inr other ↦
            let old = s.was_open w k h (sym (other_state states v w (Open (length standing)) other) ∙ e) in
            (omega (arith, longer, old.0), old_at k old.0 ∙ old.1)
      ]

      on : (k l : ℕ) → k < l → l < length (standing ++ v ∷ [])
          → Reaches (HasEdge graph) (get_or (standing ++ v ∷ []) k 0) (get_or (standing ++ v ∷ []) l 0)
      on k l lt h = elim (cases_lt l (length standing)) [
        | inl in' ↦ rw (old_at k (omega arith), old_at l in') (s.on k l lt in')
        | inr ge ↦ let last : l ≡ length standing = omega (arith, longer) in rw
            (old_at k (omega arith), new_at l last) (s.leads k v (omega arith) refl)
      ]

      back_new : (k l : ℕ) → k < l → l < length (standing ++ v ∷ [])
          → NoneBetween (groups ++ record { standing = length standing; targets = length targets } ∷ []) k l
          → Reaches (HasEdge graph) (get_or (standing ++ v ∷ []) l 0) (get_or (standing ++ v ∷ []) k 0)
      back_new k l lt h none = elim (cases_lt l (length standing)) [
        | inl in' ↦ rw (old_at k (omega arith), old_at l in')
            (s.back k l lt in' (all_front (λ x. (x.standing ≤ k) ⊎ (l < x.standing)) groups
            (record { standing = length standing; targets = length targets } ∷ []) none))
        | inr ge ↦ absurd (elim
            (all_last (λ x. (x.standing ≤ k) ⊎ (l < x.standing)) groups
            (record { standing = length standing; targets = length targets }) none) [
              | inl le ↦ omega (arith, longer)
              | inr gt ↦ omega (arith, longer)
            ])
      ]

      looked : (k t : ℕ) → k < length (standing ++ v ∷ []) → HasEdge graph (get_or (standing ++ v ∷ []) k 0) t
          → Contains done t ⊎ (IsSeated
          (groups ++ record { standing = length standing; targets = length targets } ∷ [])
          (standing ++ v ∷ []) k t
          ⊎ (IsPending (groups ++ record { standing = length standing; targets = length targets } ∷ [])
          (targets ++ targets_of graph v) k t ⊎ (None ≡ Some t)))
      looked k t h e = elim (cases_lt k (length standing)) [
        | inl lt ↦ elim (s.looked k t lt (subst (λ x. HasEdge graph x t) (old_at k lt) e)) [
          | inl c ↦ inl c
          | inr more ↦ elim more [
            | inl q ↦ inr (inl (
              q.0,
              omega (arith, longer, q.1),
              old_at q.0 q.1
                  ∙ q.2,
              All-push (λ x. (x.standing ≤ q.0) ⊎ (k < x.standing)) groups
                  (record { standing = length standing; targets = length targets }) q.3 (inr lt),
            ))
            | inr more ↦ elim more [
              | inl q ↦ inr (inr (inl (
                q.0,
                omega (arith, wider, q.1),
                get_or_append_left targets (targets_of graph v) 0 q.0 q.1 ∙ q.2,
                All-push (λ x. x.standing ≤ k → x.targets ≤ q.0) groups
                    (record { standing = length standing; targets = length targets }) q.3
                    (λ le. absurd (omega arith)),
              )))
              | inr e ↦ inr (inl (
                length standing,
                omega (arith, longer),
                new_at (length standing) refl
                    ∙ (let same : v ≡ t = cc in same),
                all_in (λ x. (x.standing ≤ length standing) ⊎ (k < x.standing)) (λ x w. inl w.0)
                    (inl (omega arith)),
              ))
            ]
          ]
        ]
        | inr ge ↦
            let last : k ≡ length standing = omega (arith, longer) in
            let c : Contains (targets_of graph v) t = subst (λ x. HasEdge graph x t) (new_at k last) e in
            inr (inr (inl (
              length targets + c.0,
              omega (arith, wider, c.1),
              get_or-append-add targets
                  (targets_of graph v) c.0 0 ∙ get_or_default (targets_of graph v) c.0 0 t c.1 ∙ c.2,
              all_in (λ x. x.standing ≤ k → x.targets ≤ length targets + c.0) (λ x w le. omega (arith, w.1))
                  (λ le. omega arith),
            )))
      ]

      from : (j : ℕ) → j < length (targets ++ targets_of graph v)
          → HasSource graph (groups ++ record { standing = length standing; targets = length targets } ∷ [])
          (standing ++ v ∷ []) (targets ++ targets_of graph v) j
      from j h = elim (cases_lt j (length targets)) [
        | inl lt ↦
            let src = s.from j lt in (
              src.0,
              omega (arith, longer, src.1),
              rw
                  (old_at src.0 src.1, get_or_append_left targets (targets_of graph v) 0 j lt) src.2,
              All-push (λ x. (x.standing ≤ src.0 → x.targets ≤ j) × (x.targets ≤ j → x.standing ≤ src.0)) groups
                  (record { standing = length standing; targets = length targets }) src.3
                  ((λ le. absurd (omega (arith, src.1))), (λ le. absurd (omega arith))),
            )
        | inr ge ↦ (
          length standing,
          omega (arith, longer),
          rw (new_at (length standing) refl, get_or-append_right targets (targets_of graph v) j 0 ge)
              (Contains-get_or (targets_of graph v) (j - length targets) 0 (omega (arith, wider))),
          all_in (λ x. (x.standing ≤ length standing → x.targets ≤ j)
              × (x.targets ≤ j → x.standing ≤ length standing))
              (λ x w. ((λ le. omega (arith, w.1)), (λ le. w.0))) ((λ le. omega arith), (λ le. omega arith)),
        )
      ]

      pub opened : IsSearched graph (set states v (Open (length standing))) (standing ++ v ∷ [])
          (targets ++ targets_of graph v)
          (groups ++ record { standing = length standing; targets = length targets } ∷ []) done None
      opened = record {
        same = omega (arith, length-set states v (Open (length standing)), s.same);
        is_open = is_open;
        was_open = was_open;
        is_done = λ w c.
            let old = s.is_done w c in
            let other : v ≢ w = λ e. let was : state_at states v ≡ Done old.1.0 = subst
            (λ x. state_at states x ≡ Done old.1.0) (sym e) old.1.1 in cc in
            (old.0, (old.1.0, other_state states v w (Open (length standing)) other ∙ old.1.1));
        was_done = λ w b h e. elim (cases_eq v w) [
          | inl same ↦ absurd (let here : state_at (set states v (Open (length standing))) w ≡ Open
              (length standing) = subst
              (λ x. state_at (set states v (Open (length standing))) x ≡ Open (length standing)) same now in cc)
          | inr other ↦ s.was_done w b h (sym (other_state states v w (Open (length standing)) other) ∙ e)
        ];
        closed = s.closed;
        behind = s.behind;
        on = on;
        back = back_new;
        looked = looked;
        from = from;
        stacked = stacked_push groups
            (record { standing = length standing; targets = length targets }) s.stacked s.within;
        within = all_in (λ x. (x.standing ≤ length (standing ++ v ∷ []))
            × (x.targets ≤ length (targets ++ targets_of graph v)))
            (λ x w. (omega (arith, longer, w.0), omega (arith, wider, w.1)))
            (omega (arith, longer), omega (arith, wider));
        based = λ k h all. elim (cases_lt k (length standing)) [
          | inl lt ↦ s.based k lt
              (all_front (λ x. k < x.standing) groups
              (record { standing = length standing; targets = length targets } ∷ []) all)
          | inr ge ↦ let lt : k < length standing = all_last (λ x. k < x.standing) groups
              (record { standing = length standing; targets = length targets }) all in omega arith
        ];
        leads = λ k w h e. absurd (cc);
        range = λ w e. absurd (cc);
      }
