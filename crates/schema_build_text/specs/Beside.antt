-- What is captured, told by the first action at or behind an item of the walk, in which the actions of a namespace
-- stand last.
use Rattle.std.specs.Prelude.{ℕ, Bool, false, ◌&&◌, List, [], ◌∷◌, Option, None, Some, if◌then◌else◌}
use Rattle.cedar_names.specs.CanonicalText.{namespace}
use Rattle.cedar_names.specs.Definitions.{same_name}
use Rattle.schema_build_text.specs.Captured.{item_holds}
use Rattle.schema_build_text.specs.Walk.{ItemContent, entity_type, action, namespace_of}

-- the namespace of the first action of the item and those behind it, of which the first action is of the other
abbrev pub action_at : ItemContent → Option (List (List ℕ)) → Option (List (List ℕ))
action_at (entity_type e) behind = behind
action_at (action a) behind = Some (namespace a.ty)

-- the namespace of the first action
abbrev pub first_action : List ItemContent → Option (List (List ℕ))
first_action [] = None
first_action (x ∷ xs) = action_at x (first_action xs)

-- a namespace with a name that is that of the action
abbrev pub is_beside : Option (List (List ℕ)) → List (List ℕ) → Bool
is_beside first [] = false
is_beside None (n ∷ ns) = false
is_beside (Some m) (n ∷ ns) = same_name (n ∷ ns) m

-- the item stands beside the action and holds the type
abbrev pub is_captured_by : Option (List (List ℕ)) → ItemContent → Bool
is_captured_by first x = is_beside first (namespace_of x) && item_holds x

-- the items that stand beside the first action at or behind them, and hold the type
abbrev pub captured_before : List ItemContent → List ItemContent
captured_before [] = []
captured_before (x ∷ xs) =
    if is_captured_by (first_action (x ∷ xs)) x then x ∷ captured_before xs else captured_before xs
