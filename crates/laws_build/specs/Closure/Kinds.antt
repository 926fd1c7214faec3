-- What an entity type or an action has by its kind.
use Rattle.std.specs.Prelude.{◌≡◌, ℕ, Bool, true, false, List, [], ◌∷◌, Option, Some, None}
use Rattle.cedar_names.specs.Meaning.{Attributes, no_more, EntityMeaning, ActionMeaning}

-- what an entity type has besides its name and ancestors: one of another schema has nothing, and an enum its choices
-- alone
abbrev pub HasItsParts : Bool → Option (List (List ℕ)) → EntityMeaning → Type 0
HasItsParts true choices e = (e.attributes ≡ no_more) × (e.tags ≡ None) × (choices ≡ None)
HasItsParts false None e = Unit {0}
HasItsParts false (Some cs) e = (e.attributes ≡ no_more) × (e.tags ≡ None) × (e.ancestors ≡ [])

-- principals and resources, or neither and no context
abbrev pub HasBothOrNeither : List (List (List ℕ)) → List (List (List ℕ)) → Attributes → Type 0
HasBothOrNeither [] [] context = context ≡ no_more
HasBothOrNeither (p ∷ ps) (r ∷ rs) context = Unit {0}
HasBothOrNeither _ _ context = ⊥

-- an action of another schema applies to nothing
abbrev pub AppliesWhereOwn : Bool → ActionMeaning → Type 0
AppliesWhereOwn true a = (a.principals ≡ []) × (a.resources ≡ []) × (a.context ≡ no_more)
AppliesWhereOwn false a = HasBothOrNeither a.principals a.resources a.context
