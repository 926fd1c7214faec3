-- The graph of ranks and what refers to what.
use Rattle.std.proofs.Common.{◌≡◌, ℕ, ◌<◌, List, [], length, get_or, take, refl, sym, ap, subst}
use Rattle.std.proofs.Common.{arith, All, Contains, Vec, Option, Some, Result, Ok, Err, inl, inr}
use Rattle.std.specs.Prelude.{slice_get, IfErr}
use Rattle.std.specs.Result.{IsErrAnd}
use Rattle.std.specs.Borrow.{Bor}
use Rattle.std.specs.Option.{option_map_or}
use Rattle.std.specs.declared.alloc.Global.{Global}
use Rattle.std.proofs.lemmas.List.{get_or_default}
use Rattle.std.proofs.lemmas.List.Elements.{All-weaker, All-contains}
use Rattle.std.proofs.lemmas.Option.{slice_get_within, slice_get_read, slice_get_cases}
use Rattle.cedar_identifiers.specs.declared.internal_name.InternalName.{InternalName}
use Rattle.schema_json.specs.declared.types.Type.{«Type»}
use Rattle.schema_json_walk.specs.Parts.{Part, type_reference, context_reference, parent, principal, resource}
use Rattle.schema_json_walk.specs.Parts.{action_parent, extension_type, open_record, action_attributes}
use Rattle.schema_json_walk.specs.Parts.{external_not_bare}
use Rattle.schema_json_walk.specs.Walk.{parts}
use Rattle.schema_build_graph.specs.Order.{StandBehind, IsLeastFault, NoneCyclic}
use Rattle.schema_build_graph.specs.declared.order_fault.OrderFault.{OrderFault}
use Rattle.schema_build_graph.specs.declared.order_fault.OrderFault.TheVariants.{Cycle, Memory}
use Rattle.schema_build_graph.specs.Paths.{Reaches}
use Rattle.schema_build_graph.specs.Graph.{targets_of, HasEdge, InRange}
use Rattle.schema_build_graph.proofs.Rows.{edge_below}
use Rattle.schema_build_graph.proofs.Paths.{reaches_one, reaches_on, reaches_within}
use Rattle.schema_build_expand.specs.Scope.{Scope, IsRanked}
use Rattle.schema_build_expand.specs.Commons.{AreBehind, IsBehind}
use Rattle.schema_build_expand.specs.Ranks.{AreMeantRanks, RefersTo}
use Rattle.schema_build_expand.specs.Rows.{AreMeantRows, AreMeant, IsMeant, RefersBy, IsCycleFault, NoneRound}

-- chains of steps of one kind are chains of another
pub reaches_as : {A : Type 0} (E F : A → A → Type 0) → ((x y : A) → E x y → F x y) → (a b : A) → Reaches E a b
    → Reaches F a b
reaches_as E F f a b r = reaches_within E (Reaches F a) (λ x y s e. reaches_on F a x y s (f x y e)) a
    (λ c e. reaches_one F a c (f a c e)) b r

pub at_some : {X : Type 0} (xs : List X) (i : ℕ) → i < length xs → (x : X) × (slice_get xs i ≡ Some x)
at_some xs i h = elim (slice_get_cases xs i).1 [ inl x ↦ (x.0, x.2) | inr past ↦ absurd (omega (arith, past.0)) ]

pub ranked_below : {N : Type 0} (s : Scope N) (full : List (List ℕ)) (k : ℕ) → IsRanked s full k → k < length s.commons
ranked_below s full k ranked = slice_get_within s.commons k ranked.0 ranked.1

module _ {N : Type 0} (s : Scope N) (ns : Option InternalName) (ps : List (Part N)) (before : List ℕ)
    (grow : (k : ℕ) → RefersTo s ns ps k → Contains before k) where
  -- the ranks that the part means are before
  part_behind : (p : Part N) → Contains ps p → IsMeant s ns p → IsBehind s before ns p
  part_behind (type_reference kind name) c m = (m, λ full k meant ranked. grow k (kind, name, c, (full, meant, ranked)))
  part_behind (extension_type name) c m = m
  part_behind (context_reference name) c m = m
  part_behind (parent name) c m = m
  part_behind (principal name) c m = m
  part_behind (resource name) c m = m
  part_behind (action_parent id ty) c m = m
  part_behind open_record c m = m
  part_behind (action_attributes names) c m = m
  part_behind external_not_bare c m = m

  pub parts_behind : All (IsMeant s ns) ps → All (IsBehind s before ns) ps
  parts_behind meant k d h =
      part_behind (get_or ps k d) (k, h, sym (get_or_default ps k d (get_or ps k d) h)) (meant k d h)

module _ {N R : Type 0} (s : Scope N) (place : R → Option InternalName) (commons : List (R × Bor («Type» N)))
    (rows : List (Vec ℕ Global)) (are : AreMeantRows s place commons rows) where
  ranks_at : (a : ℕ) (c : R × Bor («Type» N)) → slice_get commons a ≡ Some c
      → AreMeantRanks s (place c.0) (parts c.1.now) (targets_of rows a)
  ranks_at a c at =
      let r = at_some rows a (omega (arith, slice_get_within commons a c at, are.same)) in
      subst (AreMeantRanks s (place c.0) (parts c.1.now))
      (sym (ap (λ o. option_map_or (λ (v : Vec ℕ Global). v.items) o []) r.1)) (are.each a r.0 r.1 c at)

  pub in_range : length s.commons ≡ length commons → InRange (length rows) rows
  in_range count k d h =
      let row = get_or rows k d in
      let c = at_some commons k (omega (arith, h, are.same)) in
      let ranks =
      are.each k row (slice_get_read rows (length rows) k row refl h (get_or_default rows k d row h)) c.0 c.1 in
      All-weaker (RefersTo s (place c.0.0) (parts c.0.1.now)) (λ v. v < length rows)
      (λ v r. omega (arith, ranked_below s r.3.0 v r.3.2, count, are.same)) row.items ranks.sound

  pub behind : (order : List ℕ) → StandBehind rows order → AreMeant s place commons → AreBehind s place commons order
  behind order stand meant i c lt at =
      let v = get_or order i 0 in
      let ranks = ranks_at v c at in
      parts_behind s (place c.0) (parts c.1.now) (take i order)
      (λ j r. All-contains (Contains (take i order)) (targets_of rows v) j (stand i lt) (ranks.whole j r))
      (meant v c at)

  edge_refers : (a b : ℕ) → HasEdge rows a b → RefersBy s place commons a b
  edge_refers a b e =
      let c = at_some commons a (omega (arith, edge_below rows a b e, are.same)) in (
        c.0,
        c.1,
        All-contains (RefersTo s (place c.0.0) (parts c.0.1.now)) (targets_of rows a) b
            (ranks_at a c.0 c.1).sound e,
      )

  refers_edge : (a b : ℕ) → RefersBy s place commons a b → HasEdge rows a b
  refers_edge a b r = (ranks_at a r.0 r.1).whole b r.2

  pub none_round : NoneCyclic rows → NoneRound s place commons
  none_round none v r = none v (reaches_as (RefersBy s place commons) (HasEdge rows) refers_edge v v r)

  pub cycle_fault : (fault : OrderFault) → IsLeastFault rows fault → IsCycleFault s place commons fault
  cycle_fault (Cycle v) h = record {
    round = reaches_as (HasEdge rows) (RefersBy s place commons) edge_refers v v h.cyclic;
    least = λ u r. h.least u (reaches_as (RefersBy s place commons) (HasEdge rows) refers_edge u u r);
  }
  cycle_fault Memory h = tt

pub refused : {T : Type 0} (P : OrderFault → Type 0) (r : Result T OrderFault) (e : OrderFault)
    → IsErrAnd r (λ y. y ≡ e) → P e → IfErr r P
refused P (Ok x) e h k = tt
refused P (Err y) e h k = subst P (sym h) k
