-- The ranks of the declared common types that references mean.
use Rattle.std.specs.Prelude.{◌≡◌, ◌++◌, ℕ, List, [], ◌∷◌, Vec, All, Contains, Option, Some, None}
use Rattle.std.specs.declared.alloc.Global.{Global}
use Rattle.cedar_identifiers.specs.declared.internal_name.InternalName.{InternalName}
use Rattle.cedar_identifiers.specs.declared.reference_type.ReferenceType.{ReferenceType}
use Rattle.cedar_identifiers.specs.declared.reference_type.ReferenceType.TheVariants.{Common}
use Rattle.schema_json_walk.specs.Parts.{Part, type_reference}
use Rattle.schema_build_expand.specs.Scope.{Scope, IsRanked}

module _ {N : Type 0} where
  -- the reference means the declared common type of the rank
  abbrev pub MeansRank : Scope N → Option InternalName → ReferenceType → N → ℕ → Type 0
  MeansRank s ns kind name k = (full : List (List ℕ)) × (s.means ns kind name ≡ Some (full, Common))
      × IsRanked s full k

  -- the reference means just the declared common type of this rank, or none
  abbrev pub IsRankOf : Scope N → Option InternalName → ReferenceType → N → Option ℕ → Type 0
  IsRankOf s ns kind name None = (k : ℕ) → MeansRank s ns kind name k → ⊥
  IsRankOf s ns kind name (Some k) = MeansRank s ns kind name k × ((j : ℕ) → MeansRank s ns kind name j → j ≡ k)

  -- some reference among the parts means the declared common type of the rank
  abbrev pub RefersTo : Scope N → Option InternalName → List (Part N) → ℕ → Type 0
  RefersTo s ns ps k = (kind : ReferenceType) × (name : N) × Contains ps (type_reference kind name)
      × MeansRank s ns kind name k

  -- the ranks are those that references among the parts mean
  pub record AreMeantRanks (s : Scope N) (ns : Option InternalName) (ps : List (Part N)) (row : List ℕ) : Type 0 where
    pub sound : All (RefersTo s ns ps) row
    pub whole : (k : ℕ) → RefersTo s ns ps k → Contains row k

  -- just the ranks that references among the parts mean were added, at the end
  abbrev pub AddsMeantRanks : Scope N → Option InternalName → List (Part N) → List ℕ → List ℕ → Type 0
  AddsMeantRanks s ns ps before after = (more : List ℕ) × (after ≡ before ++ more) × AreMeantRanks s ns ps more

  -- just the rank that the reference means was added, where it means one
  abbrev pub AddsRankOf : Scope N → Option InternalName → ReferenceType → N → Vec ℕ Global → Vec ℕ Global → Type 0
  AddsRankOf s ns kind name before after =
      AddsMeantRanks s ns (type_reference kind name ∷ []) before.items after.items
