-- What is done, as one more is.
use Rattle.std.proofs.Common.{◌≡◌, ◌≢◌, ℕ, ◌+◌, ◌<◌, List, length, get_or, take, refl, sym, ◌∙◌, subst, arith, All}
use Rattle.std.proofs.Common.{Option, Some, inl, inr}
use Rattle.std.specs.Prelude.{slice_get}
use Rattle.std.proofs.Math.ListN.{set}
use Rattle.std.proofs.lemmas.List.{length-set, get_or-set_same, get_or-set_other}
use Rattle.std.proofs.lemmas.List.Elements.{All-weaker, All-contains, All-more}
use Rattle.std.proofs.lemmas.Option.{slice_get_within, get_or_from_slice_get, slice_get_read, same_Some}
use Rattle.std.proofs.lemmas.Bool.{cases_eq}
use Rattle.cedar_identifiers.specs.declared.internal_name.InternalName.{InternalName}
use Rattle.schema_json_walk.specs.Parts.{Part, type_reference, context_reference, parent, principal, resource}
use Rattle.schema_json_walk.specs.Parts.{action_parent, extension_type, open_record, action_attributes}
use Rattle.schema_json_walk.specs.Parts.{external_not_bare}
use Rattle.schema_build_types.specs.declared.types.Type as built
use Rattle.schema_build_expand.specs.Scope.{Scope, DeclaredType}
use Rattle.schema_build_expand.specs.Targets.{ExpandsTo, AreExpanded, IsReady}
use Rattle.schema_build_expand.specs.Commons.{IsDone, IsBehind}

-- what stands at a place after one was written
set_here : {A : Type 0} (xs : List A) (k : ℕ) (x : A) → k < length xs → slice_get (set xs k x) k ≡ Some x
set_here xs k x h =
    slice_get_read (set xs k x) (length (set xs k x)) k x refl (omega (arith, length-set xs k x))
    (sym (get_or-set_same xs k x x h))

set_there : {A : Type 0} (xs : List A) (k j : ℕ) (x y : A) → j ≢ k → slice_get (set xs k x) j ≡ Some y
    → slice_get xs j ≡ Some y
set_there xs k j x y other at =
    let lt : j < length (set xs k x) = slice_get_within (set xs k x) j y at in
    slice_get_read xs (length xs) j y refl (omega (arith, length-set xs k x, lt))
    (sym (sym (get_or-set_other xs k j x y other) ∙ get_or_from_slice_get (set xs k x) j y y at))

kept_there : {A : Type 0} (xs : List A) (k j : ℕ) (x y : A) → j ≢ k → slice_get xs j ≡ Some y
    → slice_get (set xs k x) j ≡ Some y
kept_there xs k j x y other at =
    let lt : j < length xs = slice_get_within xs j y at in
    slice_get_read (set xs k x) (length (set xs k x)) j y refl (omega (arith, length-set xs k x, lt))
    (sym (get_or-set_other xs k j x y other ∙ get_or_from_slice_get xs j y y at))

pub still_done : (done : List (Option built.«Type»)) (k : ℕ) (t : built.«Type») (v : ℕ) → k < length done
    → IsDone done v → IsDone (set done k (Some t)) v
still_done done k t v h (u, at) = elim (cases_eq v k) [
  | inl same ↦ (
    t,
    subst (λ i. slice_get (set done k (Some t)) i ≡ Some (Some t)) (sym same)
        (set_here done k (Some t) h),
  )
  | inr other ↦ (u, kept_there done k v (Some t) (Some u) other at)
]

pub now_done : (done : List (Option built.«Type»)) (k : ℕ) (t : built.«Type») → k < length done
    → IsDone (set done k (Some t)) k
now_done done k t h = (t, set_here done k (Some t) h)

-- the front of the order is done
pub front_done : (done : List (Option built.«Type»)) (order : List ℕ) (i k : ℕ) (t : built.«Type») → i < length order
    → k ≡ get_or order i 0 → k < length done → All (IsDone done) (take i order)
    → All (IsDone (set done k (Some t))) (take (i + 1) order)
front_done done order i k t lt here h all =
    All-more (IsDone (set done k (Some t))) order i 0 lt
    (All-weaker (IsDone done) (IsDone (set done k (Some t))) (λ v d. still_done done k t v h d)
    (take i order) all) (subst (IsDone (set done k (Some t))) here (now_done done k t h))

module _ {N : Type 0} (s : Scope N) where
  pub expanded_more : (done : List (Option built.«Type»)) (k : ℕ) (t : built.«Type») (d : DeclaredType N)
      → AreExpanded s done → k < length done → slice_get s.commons k ≡ Some d → ExpandsTo s d.place d.ty t
      → AreExpanded s (set done k (Some t))
  expanded_more done k t d all h at made j u there = elim (cases_eq j k) [
    | inl same ↦
        let e : t ≡ u =
        same_Some t u (same_Some (Some t) (Some u)
        (sym (set_here done k (Some t) h) ∙ subst
        (λ i. slice_get (set done k (Some t)) i ≡ Some (Some u)) same there)) in
        (d, subst (λ i. slice_get s.commons i ≡ Some d) (sym same) at, subst (ExpandsTo s d.place d.ty) e made)
    | inr other ↦ all j u (set_there done k j (Some t) (Some u) other there)
  ]

  ready_part : (done : List (Option built.«Type»)) (before : List ℕ) (ns : Option InternalName)
      → All (IsDone done) before → (p : Part N) → IsBehind s before ns p → IsReady s done ns p
  ready_part done before ns all (type_reference kind name) h =
      (h.0, λ full k meant ranked. All-contains (IsDone done) before k all (h.1 full k meant ranked))
  ready_part done before ns all (extension_type name) h = h
  ready_part done before ns all (context_reference name) h = h
  ready_part done before ns all (parent name) h = h
  ready_part done before ns all (principal name) h = h
  ready_part done before ns all (resource name) h = h
  ready_part done before ns all (action_parent id ty) h = h
  ready_part done before ns all open_record h = h
  ready_part done before ns all (action_attributes names) h = h
  ready_part done before ns all external_not_bare h = h

  pub ready : (done : List (Option built.«Type»)) (before : List ℕ) (ns : Option InternalName) (ps : List (Part N))
      → All (IsDone done) before → All (IsBehind s before ns) ps → All (IsReady s done ns) ps
  ready done before ns ps all behind =
      All-weaker (IsBehind s before ns) (IsReady s done ns) (ready_part done before ns all) ps behind
