-- Types that are used: the ranks that they refer to, and what can be expanded.
use Rattle.std.proofs.Common.{◌≡◌, ℕ, ◌+◌, ◌<◌, List, ◌++◌, length, get_or, take, subst, All, Contains, Option}
use Rattle.std.specs.Borrow.{Bor}
use Rattle.std.proofs.lemmas.List.Elements.{All-append, All-contains, All-more, All-weaker, Contains-append_left}
use Rattle.std.proofs.lemmas.List.Elements.{Contains-append_right}
use Rattle.cedar_identifiers.specs.declared.internal_name.InternalName.{InternalName}
use Rattle.schema_json.specs.declared.types.Type.{«Type»}
use Rattle.schema_json_walk.specs.Walk.{parts}
use Rattle.schema_build_types.specs.declared.types.Type as built
use Rattle.schema_build_expand.specs.Scope.{Scope}
use Rattle.schema_build_expand.specs.Commons.{IsDone}
use Rattle.schema_build_expand.specs.Ranks.{AreMeantRanks, RefersTo}
use Rattle.schema_build_expand.specs.Uses.{AreRanksAmong, AreReady, AreUsesMeant}
use Rattle.schema_build_expand.proofs.Done.{ready}
use Rattle.schema_build_expand.proofs.Linked.{parts_behind, ranked_below}

module _ {N R : Type 0} (s : Scope N) (place : R → Option InternalName) (uses : List (R × Bor («Type» N))) where
  pub below_more : (u : R × Bor («Type» N)) (roots row : List ℕ) → AreMeantRanks s (place u.0) (parts u.1.now) row
      → All (λ k. k < length s.commons) roots → All (λ k. k < length s.commons) (roots ++ row)
  below_more u roots row ranks below =
      All-append (λ k. k < length s.commons) roots row below
      (All-weaker (RefersTo s (place u.0) (parts u.1.now)) (λ k. k < length s.commons)
      (λ k r. ranked_below s r.3.0 k r.3.2) row ranks.sound)

  -- the ranks of one more
  pub among_more : (u : R × Bor («Type» N)) (i : ℕ) (roots row : List ℕ) → i < length uses → u ≡ get_or uses i u
      → AreMeantRanks s (place u.0) (parts u.1.now) row → AreRanksAmong s place (take i uses) roots
      → AreRanksAmong s place (take (i + 1) uses) (roots ++ row)
  among_more u i roots row lt is ranks among =
      let P : List ℕ → R × Bor («Type» N) → Type 0 =
      λ found u. (k : ℕ) → RefersTo s (place u.0) (parts u.1.now) k → Contains found k in
      let here : P (roots ++ row) u = λ k r. Contains-append_right roots row k (ranks.whole k r) in
      All-more (P (roots ++ row)) uses i u lt
      (All-weaker (P roots) (P (roots ++ row)) (λ u old k r. Contains-append_left roots row k (old k r))
      (take i uses) among)
      (subst (P (roots ++ row)) is here)

  -- where the ranks that the types refer to are expanded, the types can be
  pub uses_ready : (roots wanted : List ℕ) (done : List (Option built.«Type»)) → AreUsesMeant s place uses
      → AreRanksAmong s place uses roots → All (Contains wanted) roots → All (IsDone done) wanted
      → AreReady s place uses done
  uses_ready roots wanted done meant among within all k d h =
      let u = get_or uses k d in
      ready s done wanted (place u.0) (parts u.1.now) all
      (parts_behind s (place u.0) (parts u.1.now) wanted
      (λ j r. All-contains (Contains wanted) roots j within (among k d h j r)) (meant k d h))
