-- Chains over a wider relation.
use Rattle.schema_build_graph.specs.Paths.{Reaches}
use Rattle.schema_build_graph.proofs.Paths.{reaches_one, reaches_on, reaches_within}

module _ {A : Type 0} (E F : A → A → Type 0) (step : (x y : A) → E x y → F x y) where
  -- each chain is one of the wider relation
  pub reaches_wider : (a b : A) → Reaches E a b → Reaches F a b
  reaches_wider a b r = reaches_within E (Reaches F a) (λ x y s e. reaches_on F a x y s (step x y e)) a
      (λ c e. reaches_one F a c (step a c e)) b r
