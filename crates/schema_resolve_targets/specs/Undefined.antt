-- References that mean nothing.
use Rattle.std.specs.Prelude.{ℕ, List, [], ◌∷◌, Option}
use Rattle.cedar_identifiers.specs.declared.conditional_name.ConditionalName.{ConditionalName}

-- a reference to a type, or to an action with its id and its type
pub data Undefined : Type 0 where
  type_reference : ConditionalName → Undefined
  action_reference : List ℕ → Option ConditionalName → Undefined

-- the references to types, in turn
abbrev pub types_among : List Undefined → List ConditionalName
types_among [] = []
types_among (type_reference c ∷ us) = c ∷ types_among us
types_among (action_reference id ty ∷ us) = types_among us

-- the references to actions, by their ids and types, in turn
abbrev pub actions_among : List Undefined → List (List ℕ × Option ConditionalName)
actions_among [] = []
actions_among (type_reference c ∷ us) = actions_among us
actions_among (action_reference id ty ∷ us) =
    let uid : List ℕ × Option ConditionalName = (id, ty) in uid ∷ actions_among us
