-- Meanings of which no text tells all.
use Rattle.std.specs.Prelude.{◌≢◌, ℕ, List, [], ◌∷◌, Contains}
use Rattle.cedar_names.specs.Meaning.{Attributes, no_more, ActionMeaning, SchemaMeaning}

-- exactly one of the two lists is empty, or both are and the context is not
abbrev pub IsHalf : List (List (List ℕ)) → List (List (List ℕ)) → Attributes → Type 0
IsHalf [] [] context = context ≢ no_more
IsHalf (p ∷ ps) (r ∷ rs) context = ⊥
IsHalf _ _ context = Unit {0}

-- some action has principals and no resources, or the other way round, or a context with attributes and neither
abbrev pub IsHalfFilled : SchemaMeaning → Type 0
IsHalfFilled m = (a : ActionMeaning) × Contains m.actions a × IsHalf a.principals a.resources a.context
