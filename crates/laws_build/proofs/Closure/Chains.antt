-- Chains over any relation.
use Rattle.schema_build_graph.specs.Paths.{Reaches}
use Rattle.schema_build_graph.proofs.Paths.{reaches_within}

-- what each step leads to has what the end of a chain has
module _ {A : Type 0} (E : A → A → Type 0) (S : A → Type 0) (steps_to : (a b : A) → E a b → S b) where
  pub reaches_to : (a b : A) → Reaches E a b → S b
  reaches_to a b r = reaches_within E S (λ x y s e. steps_to x y e) a (steps_to a) b r
