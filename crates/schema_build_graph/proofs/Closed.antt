-- The last group is done, where all its targets were looked at.
use Rattle.std.proofs.Common.{◌≡◌, ◌≢◌, ℕ, ◌+◌, ◌-◌, ◌<◌, ◌≤◌, ◌⊎◌, inl, inr, Bool, true, false, List, [], ◌∷◌, ◌++◌}
use Rattle.std.proofs.Common.{length, length-append, get_or, take, drop, sym, ap, ◌∙◌, subst, arith, All}
use Rattle.std.proofs.Common.{Contains, Vec, Some, None}
use Rattle.std.specs.Bool.{Decides}
use Rattle.std.specs.declared.alloc.Global.{Global}
use Rattle.std.proofs.lemmas.List.{length-take, length-drop, get_or-take, get_or_append_left, take-append-le, take_all}
use Rattle.std.proofs.lemmas.List.Elements.{All-push, All-weaker, All-contains, All-from_get_or, Contains-get_or}
use Rattle.std.proofs.lemmas.List.Elements.{Contains-append_left, Contains-append_right, Contains-append_cases}
use Rattle.std.proofs.lemmas.Bool.{cases_lt, cases_Bool}
use Rattle.std.proofs.Math.Seq.{get_or-append_right}
use Rattle.schema_build_graph.specs.Paths.{Reaches}
use Rattle.schema_build_graph.specs.Graph.{targets_of, HasEdge}
use Rattle.schema_build_graph.specs.declared.search.State.{State}
use Rattle.schema_build_graph.specs.declared.search.State.TheVariants.{Open, Done}
use Rattle.schema_build_graph.specs.declared.search.Group.{Group}
use Rattle.schema_build_graph.specs.Search.{state_at, NoneBetween, IsSeated, IsPending, HasSource, AreStacked}
use Rattle.schema_build_graph.specs.Search.{IsSearched}
use Rattle.schema_build_graph.proofs.Paths.{reaches_one, reaches_through, leads_within}
use Rattle.schema_build_graph.proofs.Groups.{all_front, all_last, stacked_front, stand_below, targets_below, among_rest}
use Rattle.schema_build_graph.proofs.Groups.{place_in_rest, first_of_rest}
use Rattle.schema_build_graph.proofs.States.{state_cases}

module _ (graph : List (Vec ℕ Global)) (states : List State) (standing targets : List ℕ) (groups : List Group)
    (done : List ℕ) (s : IsSearched graph states standing targets groups done None)
    (before : List Group) (g : Group) (last : groups ≡ before ++ g ∷ []) (full : g.targets ≡ length targets) where
  f_in : g.standing ≤ length standing
  f_in = (all_last (λ x. (x.standing ≤ length standing) × (x.targets ≤ length targets)) before g
      (subst (All (λ x. (x.standing ≤ length standing) × (x.targets ≤ length targets))) last s.within)).0

  last_of : (P : Group → Type 0) → All P groups → P g
  last_of P all = all_last P before g (subst (All P) last all)

  front_of : (P : Group → Type 0) → All P groups → All P before
  front_of P all = all_front P before (g ∷ []) (subst (All P) last all)

  -- its targets are done, or its vertices
  group_closed : (k t : ℕ) → g.standing ≤ k → k < length standing → HasEdge graph (get_or standing k 0) t
      → Contains done t ⊎ Contains (drop g.standing standing) t
  group_closed k t le lt e = elim (s.looked k t lt e) [
    | inl c ↦ inl c
    | inr more ↦ elim more [
      | inl q ↦ inr (subst (Contains (drop g.standing standing)) q.2
          (among_rest standing g.standing q.0
          (elim (last_of (λ x. (x.standing ≤ q.0)
          ⊎ (k < x.standing)) q.3) [ inl h ↦ h | inr h ↦ omega arith ]) q.1))
      | inr more ↦ elim more [
        | inl q ↦ absurd (let far : g.targets ≤ q.0 = last_of
            (λ x. x.standing ≤ k → x.targets ≤ q.0) q.3 le in omega (arith, q.1))
        | inr e ↦ absurd (cc)
      ]
    ]
  ]

  none_between : (k l : ℕ) → g.standing ≤ k → NoneBetween groups k l
  none_between k l le = All-weaker (λ x. x.standing ≤ g.standing) (λ x. (x.standing ≤ k) ⊎ (l < x.standing))
      (λ x h. inl (omega arith)) groups (stand_below groups before g s.stacked last)

  -- two places of the group
  both_ways : (k l : ℕ) → g.standing ≤ k → k < l → l < length standing
      → Reaches (HasEdge graph) (get_or standing k 0) (get_or standing k 0)
      × Reaches (HasEdge graph) (get_or standing l 0) (get_or standing l 0)
  both_ways k l le lt h =
      let there : Reaches (HasEdge graph) (get_or standing k 0) (get_or standing l 0) = s.on k l lt h in
      let back : Reaches (HasEdge graph) (get_or standing l 0) (get_or standing k 0) = s.back k l lt h
      (none_between k l le) in (
        reaches_through (HasEdge graph) (get_or standing k 0) (get_or standing l 0)
            (get_or standing k 0) there back,
        reaches_through (HasEdge graph) (get_or standing l 0)
            (get_or standing k 0) (get_or standing l 0) back there,
      )

  -- a group of more than one
  several : (k : ℕ) → g.standing ≤ k → k < length standing → g.standing + 1 < length standing
      → Reaches (HasEdge graph) (get_or standing k 0) (get_or standing k 0)
  several k le lt two = elim (cases_lt g.standing k) [
    | inl h ↦ (both_ways g.standing k (omega arith) h lt).1
    | inr h ↦ let same : g.standing ≡ k = omega arith in subst
        (λ i. Reaches (HasEdge graph) (get_or standing i 0) (get_or standing i 0)) same
        (both_ways g.standing (g.standing + 1) (omega arith) (omega arith) two).0
  ]

  open_not_done : (k : ℕ) → k < length standing → Contains done (get_or standing k 0) → ⊥
  open_not_done k lt c =
      let d = s.is_done (get_or standing k 0) c in
      let o : state_at states (get_or standing k 0) ≡ Open k = (s.is_open k lt).1 in
      let d' : state_at states (get_or standing k 0) ≡ Done d.1.0 = d.1.1 in
      cc

  -- a group of one
  alone : (k t : ℕ) → k ≡ g.standing → g.standing + 1 ≡ length standing → Contains (drop g.standing standing) t
      → get_or standing k 0 ≡ t
  alone k t same one c = let q = place_in_rest standing g.standing t c in let here : k ≡ q.0 = omega
      (arith, q.1, q.2) in ap (λ i. get_or standing i 0) here ∙ q.3

  alone_cyclic : (k : ℕ) → k ≡ g.standing → g.standing + 1 ≡ length standing
      → Reaches (HasEdge graph) (get_or standing k 0) (get_or standing k 0)
      → HasEdge graph (get_or standing k 0) (get_or standing k 0)
  alone_cyclic k same one r = elim (group_closed k r.0 (omega arith) (omega arith) r.2.0) [
    | inl c ↦ absurd (open_not_done k (omega arith)
        (leads_within (HasEdge graph) (Contains done) s.closed r.1 r.0 (get_or standing k 0) c r.2.1))
    | inr c ↦ subst (HasEdge graph (get_or standing k 0)) (sym (alone k r.0 same one c)) r.2.0
  ]

  module _ (b : Bool) (b_true : b ≡ true
      → (length (drop g.standing standing) ≢ 1)
      ⊎ HasEdge graph (get_or (drop g.standing standing) 0 0) (get_or (drop g.standing standing) 0 0))
      (b_false : b ≡ false → (length (drop g.standing standing) ≡ 1)
      × (HasEdge graph (get_or (drop g.standing standing) 0 0) (get_or (drop g.standing standing) 0 0) → ⊥)) where
    first_at : get_or (drop g.standing standing) 0 0 ≡ get_or standing g.standing 0
    first_at = first_of_rest standing g.standing

    long : length (drop g.standing standing) ≡ length standing - g.standing
    long = length-drop g.standing standing

    told_at : (k : ℕ) → g.standing ≤ k → k < length standing
        → Decides b (Reaches (HasEdge graph) (get_or standing k 0) (get_or standing k 0))
    told_at k le lt = (
      (λ e. elim (cases_lt (g.standing + 1) (length standing)) [
        | inl two ↦ several k le lt two
        | inr one ↦ let here : g.standing ≡ k = omega arith in elim (b_true e) [
          | inl many ↦ absurd (many (omega (arith, long)))
          | inr own ↦ reaches_one (HasEdge graph) (get_or standing k 0) (get_or standing k 0)
              (subst (λ x. HasEdge graph x x) (first_at ∙ ap (λ i. get_or standing i 0) here) own)
        ]
      ]),
      (λ r. elim (cases_Bool b) [
        | inl e ↦ e
        | inr e ↦
            let no' = b_false e in
            let here : g.standing ≡ k = omega (arith, long, no'.0) in
            absurd (no'.1 (subst (λ x. HasEdge graph x x) (sym (first_at ∙ ap (λ i. get_or standing i 0) here))
            (alone_cyclic k (sym here) (omega (arith, long, no'.0)) r)))
      ]),
    )

    told : (t : ℕ) → Contains (drop g.standing standing) t → Decides b (Reaches (HasEdge graph) t t)
    told t c = let q = place_in_rest standing g.standing t c in subst
        (λ x. Decides b (Reaches (HasEdge graph) x x)) q.3 (told_at q.0 q.1 q.2)

    module _ (states' : List State) (same : length states' ≡ length states)
        (marked : All (λ v. state_at states' v ≡ Done b) (drop g.standing standing))
        (others : (v : ℕ) → (Contains (drop g.standing standing) v → ⊥)
        → state_at states' v ≡ state_at states v) where
      now_done : (v : ℕ) → Contains (drop g.standing standing) v → state_at states' v ≡ Done b
      now_done v c = All-contains (λ v. state_at states' v ≡ Done b) (drop g.standing standing) v marked c

      -- who is of the group stands open
      was_of : (v : ℕ) → Contains (drop g.standing standing) v
          → (k : ℕ) × (g.standing ≤ k) × (k < length standing) × (v < length graph) × (state_at states v ≡ Open k)
      was_of v c =
          let q = place_in_rest standing g.standing v c in
          let o = s.is_open q.0 q.2 in
          (q.0, q.1, q.2, subst (λ x. x < length graph) q.3 o.0, subst (λ x. state_at states x ≡ Open q.0) q.3 o.1)

      not_of : (k : ℕ) → k < g.standing → Contains (drop g.standing standing) (get_or standing k 0) → ⊥
      not_of k lt c =
          let q = was_of (get_or standing k 0) c in
          let o : state_at states (get_or standing k 0) ≡ Open k = (s.is_open k (omega (arith, f_in))).1 in
          let o' : state_at states (get_or standing k 0) ≡ Open q.0 = q.4 in
          let here : k ≡ q.0 = cc in
          omega (arith, q.1)

      of_cases : (v : ℕ) → v < length graph
          → Contains (drop g.standing standing) v ⊎ (Contains (drop g.standing standing) v → ⊥)
      of_cases v h = elim (state_cases (state_at states v)) [
        | inl new ↦ inr (λ c. let o : state_at states v ≡ Open (was_of v c).0 = (was_of v c).4 in cc)
        | inr more ↦ elim more [
          | inl o ↦
              let at = s.was_open v o.0 h o.1 in
              elim (cases_lt o.0 g.standing) [
                | inl lt ↦ inr (subst (λ x. Contains (drop g.standing standing) x → ⊥) at.1 (not_of o.0 lt))
                | inr ge ↦ inl (subst (Contains (drop g.standing standing)) at.1
                    (among_rest standing g.standing o.0 ge at.0))
              ]
          | inr d ↦ inr (λ c. let o : state_at states v ≡ Open (was_of v c).0 =
              (was_of v c).4 in let e : state_at states v ≡ Done d.0 = d.1 in cc)
        ]
      ]

      shorter : length (take g.standing standing) ≡ g.standing
      shorter = omega (arith, length-take g.standing standing, f_in)

      old_at : (k : ℕ) → k < g.standing → get_or (take g.standing standing) k 0 ≡ get_or standing k 0
      old_at k lt = get_or-take g.standing standing k 0 lt

      with_last : (P : Group → Type 0) → All P before → P g → All P groups
      with_last P front here = subst (All P) (sym last) (All-push P before g front here)

      is_open : (k : ℕ) → k < length (take g.standing standing)
          → (get_or (take g.standing standing) k 0 < length graph)
          × (state_at states' (get_or (take g.standing standing) k 0) ≡ Open k)
      is_open k h =
          let lt : k < g.standing = omega (arith, shorter) in
          let old = s.is_open k (omega (arith, f_in)) in
          subst (λ x. (x < length graph) × (state_at states' x ≡ Open k)) (sym (old_at k lt))
          (old.0, others (get_or standing k 0) (not_of k lt) ∙ old.1)

      was_open : (v k : ℕ) → v < length graph → state_at states' v ≡ Open k
          → (k < length (take g.standing standing)) × (get_or (take g.standing standing) k 0 ≡ v)
      was_open v k h e = elim (of_cases v h) [
        | inl c ↦ absurd (let d : state_at states' v ≡ Done b = now_done v c in cc)
        | inr away ↦
            let old = s.was_open v k h (sym (others v away) ∙ e) in
            elim (cases_lt k g.standing) [
              | inl lt ↦ (omega (arith, shorter), old_at k lt ∙ old.1)
              | inr ge ↦ absurd (away
                  (subst (Contains (drop g.standing standing)) old.1 (among_rest standing g.standing k ge old.0)))
            ]
      ]

      is_done : (v : ℕ) → Contains (done ++ drop g.standing standing) v
          → (v < length graph) × ((cyclic : Bool) × (state_at states' v ≡ Done cyclic))
      is_done v c = elim (Contains-append_cases done (drop g.standing standing) v c) [
        | inl d ↦
            let old = s.is_done v d in
            let away : Contains (drop g.standing standing) v
            → ⊥ = λ m. (let o : state_at states v ≡ Open (was_of v m).0 =
            (was_of v m).4 in let e : state_at states v ≡ Done old.1.0 = old.1.1 in cc) in
            (old.0, (old.1.0, others v away ∙ old.1.1))
        | inr m ↦ ((was_of v m).3, (b, now_done v m))
      ]

      was_done : (v : ℕ) (cyclic : Bool) → v < length graph → state_at states' v ≡ Done cyclic
          → Contains (done ++ drop g.standing standing) v × Decides cyclic (Reaches (HasEdge graph) v v)
      was_done v cyclic h e = elim (of_cases v h) [
        | inl c ↦ (
          Contains-append_right done (drop g.standing standing) v c,
          subst
              (λ x. Decides x (Reaches (HasEdge graph) v v))
              (let d : state_at states' v ≡ Done b = now_done v c in let bs : b ≡ cyclic = cc in bs) (told v c),
        )
        | inr away ↦ let old = s.was_done v cyclic h (sym (others v away) ∙ e) in
            (Contains-append_left done (drop g.standing standing) v old.0, old.1)
      ]

      closed_all : (x y : ℕ) → Contains (done ++ drop g.standing standing) x → HasEdge graph x y
          → Contains (done ++ drop g.standing standing) y
      closed_all x y c e = elim (Contains-append_cases done (drop g.standing standing) x c) [
        | inl d ↦ Contains-append_left done (drop g.standing standing) y (s.closed x y d e)
        | inr m ↦
            let q = place_in_rest standing g.standing x m in
            elim (group_closed q.0 y q.1 q.2 (subst (λ z. HasEdge graph z y) (sym q.3) e)) [
              | inl d ↦ Contains-append_left done (drop g.standing standing) y d
              | inr n ↦ Contains-append_right done (drop g.standing standing) y n
            ]
      ]

      -- where the group is one vertex that does not reach itself, all its targets are done
      all_before : (v : ℕ) → b ≡ false → Contains (drop g.standing standing) v
          → All (Contains done) (targets_of graph v)
      all_before v e c = All-from_get_or (Contains done) (targets_of graph v) 0 (λ i h.
          let q = place_in_rest standing g.standing v c in
          let one : g.standing + 1 ≡ length standing = omega (arith, long, (b_false e).0, q.1, q.2) in
          let edge : HasEdge graph v (get_or (targets_of graph v) i 0) = Contains-get_or (targets_of graph v) i 0 h in
          elim (group_closed q.0 (get_or (targets_of graph v) i 0) q.1 q.2
          (subst (λ z. HasEdge graph z (get_or (targets_of graph v) i 0)) (sym q.3) edge)) [
            | inl d ↦ d
            | inr n ↦ absurd (
                let itself : v ≡ get_or (targets_of graph v) i 0 = sym q.3
                ∙ alone q.0 (get_or (targets_of graph v) i 0) (omega (arith, q.1, q.2)) one n in
                let yes' : b ≡ true = (told v c).1
                (reaches_one (HasEdge graph) v v (subst (HasEdge graph v) (sym itself) edge)) in
                cc)
          ])

      behind : (k : ℕ) → k < length (done ++ drop g.standing standing)
          → Reaches (HasEdge graph) (get_or (done ++ drop g.standing standing) k 0)
          (get_or (done ++ drop g.standing standing) k 0)
          ⊎ All (Contains (take k (done ++ drop g.standing standing)))
          (targets_of graph (get_or (done ++ drop g.standing standing) k 0))
      behind k h = elim (cases_lt k (length done)) [
        | inl lt ↦
            let here : get_or (done ++ drop g.standing standing) k 0 ≡ get_or done k 0 = get_or_append_left done
            (drop g.standing standing) 0 k lt in
            let front : take k (done ++ drop g.standing standing) ≡ take k done = take-append-le k done
            (drop g.standing standing) (omega arith) in
            rw (here, front) (s.behind k lt)
        | inr ge ↦
            let here : get_or (done ++ drop g.standing standing) k 0 ≡ get_or (drop g.standing standing)
            (k - length done) 0 = get_or-append_right done (drop g.standing standing) k 0 ge in
            let m : Contains (drop g.standing standing)
            (get_or (drop g.standing standing) (k - length done) 0) = Contains-get_or (drop g.standing standing)
            (k - length done) 0 (omega (arith, length-append done (drop g.standing standing))) in
            let c : Contains (drop g.standing standing) (get_or (done ++ drop g.standing standing) k 0) = subst
            (Contains (drop g.standing standing)) (sym here) m in
            elim (cases_Bool b) [
              | inl e ↦ inl ((told (get_or (done ++ drop g.standing standing) k 0) c).0 e)
              | inr e ↦
                  let first : k ≡ length done = omega
                  (arith, length-append done (drop g.standing standing), (b_false e).0) in
                  let front : take k (done ++ drop g.standing standing) ≡ done = take-append-le k done
                  (drop g.standing standing) (omega arith) ∙ take_all k done (omega arith) in
                  inr (subst (λ xs. All (Contains xs)
                  (targets_of graph (get_or (done ++ drop g.standing standing) k 0))) (sym front)
                  (all_before (get_or (done ++ drop g.standing standing) k 0) e c))
            ]
      ]

      looked : (k t : ℕ) → k < length (take g.standing standing)
          → HasEdge graph (get_or (take g.standing standing) k 0) t
          → Contains (done ++ drop g.standing standing) t
          ⊎ (IsSeated before (take g.standing standing) k t ⊎ (IsPending before targets k t ⊎ (None ≡ Some t)))
      looked k t h e = elim
          (s.looked k t (omega (arith, shorter, f_in))
          (subst (λ x. HasEdge graph x t) (old_at k (omega (arith, shorter))) e)) [
            | inl c ↦ inl (Contains-append_left done (drop g.standing standing) t c)
            | inr more ↦ elim more [
              | inl q ↦ elim (cases_lt q.0 g.standing) [
                | inl lt ↦ inr (inl (
                  q.0,
                  omega (arith, shorter),
                  old_at q.0 lt
                      ∙ q.2,
                  front_of (λ x. (x.standing ≤ q.0) ⊎ (k < x.standing)) q.3,
                ))
                | inr ge ↦ inl (Contains-append_right done (drop g.standing standing) t
                    (subst (Contains (drop g.standing standing)) q.2 (among_rest standing g.standing q.0 ge q.1)))
              ]
              | inr more ↦ elim more [
                | inl q ↦ inr (inr (inl (q.0, q.1, q.2, front_of (λ x. x.standing ≤ k → x.targets ≤ q.0) q.3)))
                | inr e ↦ absurd (cc)
              ]
            ]
          ]

      from : (j : ℕ) → j < length targets → HasSource graph before (take g.standing standing) targets j
      from j h =
          let src = s.from j h in
          let all = last_of (λ x. (x.standing ≤ src.0 → x.targets ≤ j)
          × (x.targets ≤ j → x.standing ≤ src.0)) src.3 in
          elim (cases_lt src.0 g.standing) [
            | inl lt ↦ (
              src.0,
              omega (arith, shorter),
              subst (λ x. HasEdge graph x (get_or targets j 0))
                  (sym (old_at src.0 lt)) src.2,
              front_of (λ x. (x.standing ≤ src.0 → x.targets ≤ j) × (x.targets ≤ j → x.standing ≤ src.0)) src.3,
            )
            | inr ge ↦ absurd (let far : g.targets ≤ j = all.0 ge in omega arith)
          ]

      pub closed : IsSearched graph states' (take g.standing standing) targets before
          (done ++ drop g.standing standing) None
      closed = record {
        same = same ∙ s.same;
        is_open = is_open;
        was_open = was_open;
        is_done = is_done;
        was_done = was_done;
        closed = closed_all;
        behind = behind;
        on = λ k l lt h. rw (old_at k (omega (arith, shorter)), old_at l (omega (arith, shorter)))
            (s.on k l lt (omega (arith, shorter, f_in)));
        back = λ k l lt h none. rw (old_at k (omega (arith, shorter)), old_at l (omega (arith, shorter)))
            (s.back k l lt (omega (arith, shorter, f_in))
            (with_last (λ x. (x.standing ≤ k) ⊎ (l < x.standing)) none (inr (omega (arith, shorter)))));
        looked = looked;
        from = from;
        stacked = stacked_front before (g ∷ []) (subst AreStacked last s.stacked);
        within = λ i d lt. (
          omega (
            arith,
            shorter,
            front_of (λ x. x.standing ≤ g.standing)
                (stand_below groups before g s.stacked last) i d lt,
          ),
          omega (
            arith,
            full,
            front_of (λ x. x.targets ≤ g.targets)
                (targets_below groups before g s.stacked last) i d lt,
          ),
        );
        based = λ k h all. s.based k (omega (arith, shorter, f_in))
            (with_last (λ x. k < x.standing) all (omega (arith, shorter)));
        leads = λ k w h e. absurd (cc);
        range = λ w e. absurd (cc);
      }
