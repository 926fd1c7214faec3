-- Types that are used, each with what names mean where it is written.
use Rattle.std.specs.Prelude.{◌≡◌, ℕ, List, All, Contains, Option}
use Rattle.std.specs.Borrow.{Bor}
use Rattle.cedar_identifiers.specs.declared.internal_name.InternalName.{InternalName}
use Rattle.schema_json.specs.declared.types.Type.{«Type»}
use Rattle.schema_json_walk.specs.Walk.{parts}
use Rattle.schema_build_types.specs.declared.types.Type as built
use Rattle.schema_build_expand.specs.Scope.{Scope}
use Rattle.schema_build_expand.specs.Ranks.{RefersTo}
use Rattle.schema_build_expand.specs.Rows.{IsMeant}
use Rattle.schema_build_expand.specs.Targets.{IsReady}

module _ {N R : Type 0} where
  -- beside each type that is used, names mean what this scope says
  abbrev pub AreIn : Scope N → (R → Scope N) → List (R × Bor («Type» N)) → Type 0
  AreIn s scope uses = All (λ u. scope u.0 ≡ s) uses

  -- each part of each type that is used is meant
  abbrev pub AreUsesMeant : Scope N → (R → Option InternalName) → List (R × Bor («Type» N)) → Type 0
  AreUsesMeant s place uses = All (λ u. All (IsMeant s (place u.0)) (parts u.1.now)) uses

  -- each part of each type that is used can be expanded
  abbrev pub AreReady : Scope N → (R → Option InternalName) → List (R × Bor («Type» N)) → List (Option built.«Type»)
      → Type 0
  AreReady s place uses done = All (λ u. All (IsReady s done (place u.0)) (parts u.1.now)) uses

  -- the ranks that each type that is used refers to are among these
  abbrev pub AreRanksAmong : Scope N → (R → Option InternalName) → List (R × Bor («Type» N)) → List ℕ → Type 0
  AreRanksAmong s place uses ranks =
      All (λ u. (k : ℕ) → RefersTo s (place u.0) (parts u.1.now) k → Contains ranks k) uses
