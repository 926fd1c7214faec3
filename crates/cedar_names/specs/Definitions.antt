-- Which names are defined. A name is the texts of its components, and an action is its type with its id.
use Rattle.std.specs.Prelude.{◌≡◌, ℕ, Bool, ◌&&◌, ◌||◌, List, map}
use Rattle.std.specs.List.{list_any}
use Rattle.std.specs.Str.{bytes_eq, encode_utf8_all}
use Rattle.std.specs.Cmp.Lexicographic.{pointwise}
use Rattle.cedar_identifiers.specs.Names.{components_of}
use Rattle.cedar_names.specs.declared.entity_uid.EntityUID.{EntityUID}

-- the common types, the entity types and the actions
pub record Definitions : Type 0 where
  pub commons : List (List (List ℕ))
  pub entities : List (List (List ℕ))
  pub actions : List (List (List ℕ) × List ℕ)

-- the names have equal components in turn
abbrev pub same_name : List (List ℕ) → List (List ℕ) → Bool
same_name = pointwise bytes_eq

-- the name is one of these
abbrev pub among : List (List (List ℕ)) → List (List ℕ) → Bool
among names name = list_any (same_name name) names

-- the action, as its type with its id
abbrev pub action_of : EntityUID → List (List ℕ) × List ℕ
action_of uid = (components_of uid.ty.name, uid.eid.0)

-- the actions have equal types, and ids of equal bytes
abbrev pub same_action : List (List ℕ) × List ℕ → List (List ℕ) × List ℕ → Bool
same_action a b = same_name a.0 b.0 && bytes_eq (encode_utf8_all a.1) (encode_utf8_all b.1)

-- the action is one of these
abbrev pub among_actions : List (List (List ℕ) × List ℕ) → List (List ℕ) × List ℕ → Bool
among_actions actions action = list_any (same_action action) actions

-- the names are the old ones and this one
abbrev pub AddsName : List (List (List ℕ)) → List (List (List ℕ)) → List (List ℕ) → Type 0
AddsName old new name = (n : List (List ℕ)) → among new n ≡ (among old n || same_name n name)

-- the names are the old ones and these
abbrev pub AddsNames : List (List (List ℕ)) → List (List (List ℕ)) → List (List (List ℕ)) → Type 0
AddsNames old new more = (n : List (List ℕ)) → among new n ≡ (among old n || among more n)

-- the actions are the old ones and this one
abbrev pub AddsAction : List (List (List ℕ) × List ℕ) → List (List (List ℕ) × List ℕ) → List (List ℕ) × List ℕ
    → Type 0
AddsAction old new action = (a : List (List ℕ) × List ℕ)
    → among_actions new a ≡ (among_actions old a || same_action a action)

-- the names are the old ones and the types of the actions
abbrev pub AddsTypes : List (List (List ℕ)) → List (List (List ℕ)) → List (List (List ℕ) × List ℕ) → Type 0
AddsTypes old new actions = (n : List (List ℕ)) → among new n ≡ (among old n || among (map (λ a. a.0) actions) n)
