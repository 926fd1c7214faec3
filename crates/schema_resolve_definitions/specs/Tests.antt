-- What is defined, as tests: two lists of the same names define the same.
use Rattle.std.specs.Prelude.{ℕ, Bool, List}
use Rattle.cedar_names.specs.Definitions.{Definitions, among, among_actions}

-- what is defined, as three tests: which names are common types, which are entity types, and what is an action
pub record Tests : Type 0 where
  pub is_common : List (List ℕ) → Bool
  pub is_entity : List (List ℕ) → Bool
  pub is_action : List (List ℕ) × List ℕ → Bool

-- the tests of three lists
abbrev pub tests_of : Definitions → Tests
tests_of d = record { is_common = among d.commons; is_entity = among d.entities; is_action = among_actions d.actions }
