-- How the ranks that the references of a type mean are gathered, one part after another.
use Rattle.std.specs.Prelude.{◌≡◌, [], ◌∷◌, Option}
use Rattle.cedar_identifiers.specs.declared.internal_name.InternalName.{InternalName}
use Rattle.schema_json_walk.specs.Parts.{Part}
use Rattle.schema_build_expand.specs.Scope.{Scope}
use Rattle.schema_build_expand.specs.Ranks.{AddsMeantRanks}
use Rattle.schema_build_expand.specs.declared.ranks.RankFinder.{RankFinder}

module _ {N R : Type 0} (scope : R → Scope N) (place : R → Option InternalName) where
  -- the part is looked at, and what names mean stays
  abbrev pub Finds : RankFinder R → Part N → RankFinder R → Type 0
  Finds before part after = (after.names ≡ before.names)
      × AddsMeantRanks (scope before.names.now) (place before.names.now) (part ∷ []) before.ranks.items
      after.ranks.items
