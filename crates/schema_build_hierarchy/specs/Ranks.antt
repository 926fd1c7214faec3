-- Ranks: the places of names in a list in which each stands once.
use Rattle.std.specs.Prelude.{◌≡◌, ◌↔◌, ℕ, List, Contains, Option, Some, None, slice_get}
use Rattle.std.specs.declared.cmp.Ordering.{Ordering}
use Rattle.std.specs.declared.cmp.Ordering.TheVariants.{Equal}

-- the name is that of the rank, as the order sees it
abbrev pub HasRank : {K : Type 0} → (K → K → Ordering) → List K → K → ℕ → Type 0
HasRank {K} order own name r = (o : K) × (slice_get own r ≡ Some o) × (order o name ≡ Equal)

-- the rank of the name; or it has none
abbrev pub IsRankOf : {K : Type 0} → (K → K → Ordering) → List K → K → Option ℕ → Type 0
IsRankOf order own name None = (r : ℕ) → HasRank order own name r → ⊥
IsRankOf order own name (Some r) = HasRank order own name r

-- one of these names has the rank
abbrev pub HasRankAmong : {K : Type 0} → (K → K → Ordering) → List K → List K → ℕ → Type 0
HasRankAmong {K} order own names r = (k : K) × Contains names k × HasRank order own k r

-- the row holds the ranks of those names that have one
pub record AreRanksOf {K : Type 0} (order : K → K → Ordering) (own names : List K) (row : List ℕ) : Type 0 where
  pub are : (r : ℕ) → Contains row r ↔ HasRankAmong order own names r
