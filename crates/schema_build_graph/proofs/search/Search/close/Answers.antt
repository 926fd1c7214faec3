use Rattle.std.proofs.lemmas.Grind.{common_steps}
use Rattle.std.proofs.Common.{◌≡◌, ◌≢◌, ◌-◌, ◌<◌, ◌++◌, ◌∷◌, ◌⊎◌, ℕ, Bool, true, false, List, [], length, length-append}
use Rattle.std.proofs.Common.{get_or, take, drop, sym, ap, ◌∙◌, subst, arith, All, Contains, Vec, inl, inr}
use Rattle.std.specs.Bool.{Decides}
use Rattle.std.specs.declared.alloc.Global.{Global}
use Rattle.std.proofs.lemmas.List.{length-drop, take_all}
use Rattle.std.proofs.Math.Seq.{take-append_seam}
use Rattle.schema_build_graph.specs.Graph.{HasEdge}
use Rattle.schema_build_graph.specs.Search.{state_at}
use Rattle.schema_build_graph.specs.declared.search.State.{State}
use Rattle.schema_build_graph.specs.declared.search.State.TheVariants.{Done}
use Rattle.schema_build_graph.specs.declared.search.Group.{Group}
use Rattle.schema_build_graph.proofs.Own.{own_target}
use Rattle.schema_build_graph.proofs.Rows.{written}
use Rattle.schema_build_graph.proofs.Groups.{first_of_rest}
use Rattle.schema_build_graph.proofs.States.{weight_closed}
use Rattle.schema_build_graph.proofs.Closed.{closed}
use Rattle.schema_build_graph.proofs.search.Search.close.Goals as goal
use Rattle.schema_build_graph.proofs.search.Search.close.Goals.{then-vertices-eq1, else-vertices-eq1}

front_only : (groups before : List Group) (g : Group) (n : ℕ) → groups ≡ before ++ g ∷ [] → n ≡ length groups - 1
    → take n groups ≡ before
front_only groups before g n e last =
    let long : n ≡ length before = omega (arith, last, ap length e, length-append before (g ∷ [])) in
    ap (λ i. take i groups) long ∙ ap (take (length before)) e ∙ take-append_seam before (g ∷ [])

others_kept : (old old' new : List State) (vs vs' : List ℕ) → old ≡ old' → vs ≡ vs'
    → ((v : ℕ) → (Contains vs v → ⊥) → state_at new v ≡ state_at old v) → (v : ℕ) → (Contains vs' v → ⊥)
    → state_at new v ≡ state_at old' v
others_kept old old' new vs vs' e f same v away = same v (λ c. away (subst (λ xs. Contains xs v) f c))
    ∙ ap (λ st. state_at st v) e

-- whether the vertices reach themselves
abbrev Told : List (Vec ℕ Global) → Bool → List ℕ → Type 0
Told graph b vs = (b ≡ true → (length vs ≢ 1) ⊎ HasEdge graph (get_or vs 0 0) (get_or vs 0 0))
    × (b ≡ false → (length vs ≡ 1) × (HasEdge graph (get_or vs 0 0) (get_or vs 0 0) → ⊥))

pub returns-clause-searched : goal.returns-clause-searched
returns-clause-searched c =
    let s = c.args.self.now in
    let graph = c.args.graph.now in
    let b = c.if-vertices-eq1.cyclic in
    let before = c.requires.last.0 in
    let f = c.args.group.standing in
    let xs = c.deref.result.now in
    let vs = take (length xs - f) (drop f xs) in
    let rest : take (length xs - f) (drop f xs) ≡ drop f s.standing.items = take_all (length xs - f) (drop f xs)
    (omega (arith, length-drop f xs)) ∙ ap (drop f) c.deref.ensures.value in
    let states : take s.states.len
    (c.mark_done.new.states ++ drop (length c.mark_done.new.states) s.states.items) ≡ c.mark_done.new.states =
    written s.states.items c.mark_done.new.states s.states.len
    (c.mark_done.ensures.same ∙ ap length c.deref_mut.ensures.value) (omega (arith, s.states.ok.0)) in
    let groups : c.truncate-2.new.self.items ≡ before = c.truncate-2.ensures.items
    ∙ front_only s.groups.items before c.args.group (c.len.result - 1) c.requires.last.1
    (omega (arith, c.len.ensures, s.groups.ok.0)) in
    let done : c.extend_from_slice.new.self.items ≡ s.done.items
    ++ drop c.args.group.standing s.standing.items = c.in_ok-extend_from_slice.ensures.items
    ∙ ap (λ xs. s.done.items ++ xs) rest in
    let told : Told graph b vs = elim c.if-vertices-eq1.branch [
      | then-vertices-eq1 w ↦
          let one : length vs ≡ 1 = w.if-vertices-eq1.true in
          let lt : f < length s.standing.items = omega (arith, one, ap length rest, length-drop f s.standing.items) in
          let v : get_or vs 0 0 < length graph = subst (λ ys. get_or ys 0 0 < length graph) (sym rest)
          (subst (λ x. x < length graph) (sym (first_of_rest s.standing.items f))
          (c.requires.searched.is_open f lt).0) in
          let d : Decides w.contains-cyclic.result (HasEdge graph (get_or vs 0 0) (get_or vs 0 0)) =
          own_target graph (get_or vs 0 0) w.index-graph-vertices.result w.deref-then-vertices-eq1.result.now
          w.contains-cyclic.result v w.index-graph-vertices.is w.deref-then-vertices-eq1.ensures.value
          w.contains-cyclic.ensures.cases in (
            (λ e. inr (d.0 (sym w.cyclic-is ∙ e))),
            (λ e. (
              one,
              (λ edge. (let yes' : w.contains-cyclic.result ≡ true = d.1 edge in
                  let no' : w.contains-cyclic.result ≡ false = sym w.cyclic-is ∙ e in cc)),
            )),
          )
      | else-vertices-eq1 w ↦
          ((λ e. inl w.if-vertices-eq1.false), (λ e. absurd (let yes' : b ≡ true = w.cyclic-is in cc)))
    ] in
    let told' : Told graph b (drop f s.standing.items) = subst (Told graph b) rest told in
    rw (states, c.truncate.ensures.items, groups, done)
    (closed graph s.states.items s.standing.items s.targets.items s.groups.items s.done.items c.requires.searched
    before c.args.group c.requires.last.1 c.requires.looked b told'.0 told'.1 c.mark_done.new.states
    (c.mark_done.ensures.same ∙ ap length c.deref_mut.ensures.value)
    (subst (All (λ v. state_at c.mark_done.new.states v ≡ Done b)) rest c.mark_done.ensures.marked)
    (others_kept c.deref_mut.result.now s.states.items c.mark_done.new.states vs
    (drop f s.standing.items) c.deref_mut.ensures.value rest c.mark_done.ensures.others))

pub returns-clause-smaller : goal.returns-clause-smaller
returns-clause-smaller c =
    let s = c.args.self.now in
    let before = c.requires.last.0 in
    let states : take s.states.len
    (c.mark_done.new.states ++ drop (length c.mark_done.new.states) s.states.items) ≡ c.mark_done.new.states =
    written s.states.items c.mark_done.new.states s.states.len
    (c.mark_done.ensures.same ∙ ap length c.deref_mut.ensures.value) (omega (arith, s.states.ok.0)) in
    let groups : c.truncate-2.new.self.items ≡ before = c.truncate-2.ensures.items
    ∙ front_only s.groups.items before c.args.group (c.len.result - 1) c.requires.last.1
    (omega (arith, c.len.ensures, s.groups.ok.0)) in
    rw (states, groups) (weight_closed c.args.graph.now s.states.items c.mark_done.new.states c.if-vertices-eq1.cyclic
    s.targets.items s.groups.items before (c.mark_done.ensures.same ∙ ap length c.deref_mut.ensures.value)
    (subst (λ old. (v : ℕ)
    → (state_at c.mark_done.new.states v ≡ Done c.if-vertices-eq1.cyclic)
    ⊎ (state_at c.mark_done.new.states v ≡ state_at old v)) c.deref_mut.ensures.value c.mark_done.ensures.each)
    (omega (arith, ap length c.requires.last.1, length-append before (c.args.group ∷ []))))

pub bounds-graph-vertices : goal.bounds-graph-vertices
bounds-graph-vertices c = grind (arith, common_steps)

pub overflow_sub-len : goal.overflow_sub-len
overflow_sub-len c = grind (arith, common_steps)

pub returns-clause-seen : goal.returns-clause-seen
returns-clause-seen c = grind (arith, common_steps)

pub slice_bounds-vertices-count : goal.slice_bounds-vertices-count
slice_bounds-vertices-count c = grind (arith, common_steps)

pub slice_bounds-vertices-start : goal.slice_bounds-vertices-start
slice_bounds-vertices-start c = grind (arith, common_steps)
