-- Which ids an entity type of a meaning has, and which of them another meaning lacks.
use Rattle.std.specs.Prelude.{◌≡◌, ◌⊎◌, ◌++◌, ◌+◌, ◌<◌, ℕ, zero, suc, Bool, true, false, cond, ◌||◌, List, [], ◌∷◌}
use Rattle.std.specs.Prelude.{length, Option, Some, None, ⊤, MatchOption, replicate}
use Rattle.std.specs.List.{AllByRecursion}
use Rattle.std.specs.Str.{bytes_eq}
use Rattle.cedar_names.specs.Definitions.{same_name}
use Rattle.cedar_names.specs.Meaning.{EntityMeaning, ActionMeaning, SchemaMeaning}
use Rattle.schema_inclusion_values.specs.Values.{Text, Name}

-- P holds of one of them
abbrev pub AnyOf : {A : Type 0} → (A → Type 0) → List A → Type 0
AnyOf P [] = ⊥
AnyOf P (x ∷ xs) = P x ⊎ AnyOf P xs

-- every id, but one of the choices where there are choices
abbrev pub TakesId : Option (List Text) → Text → Type 0
TakesId None id = ⊤
TakesId (Some choices) id = AnyOf (λ c. c ≡ id) choices

-- the type is an entity type that takes the id, or an action of the type has the id
abbrev pub Fits : SchemaMeaning → Name → Text → Type 0
Fits m ty id = AnyOf (λ e. (e.name ≡ ty) × TakesId e.choices id) m.entities
    ⊎ AnyOf (λ a. (a.ty ≡ ty) × (a.id ≡ id)) m.actions

-- ---- what the meaning of a fragment without fault keeps

-- the name is that of an entity type or of an action's type
abbrev pub IsNamed : SchemaMeaning → Name → Type 0
IsNamed m ty = AnyOf (λ e. e.name ≡ ty) m.entities ⊎ AnyOf (λ a. a.ty ≡ ty) m.actions

-- there are choices, or ids are not limited to choices
abbrev pub IsNoEmptyEnum : Option (List Text) → Type 0
IsNoEmptyEnum (Some []) = ⊥
IsNoEmptyEnum _ = ⊤

-- each enumerated entity type has a choice
abbrev pub HasChoices : SchemaMeaning → Type 0
HasChoices m = AllByRecursion (λ e. IsNoEmptyEnum e.choices) m.entities

-- ---- for private clauses: all ids of a type, if they can be listed

abbrev pub with_ids : Option (List Text) → Option (List Text) → Option (List Text)
with_ids None more = None
with_ids (Some ids) None = None
with_ids (Some ids) (Some more) = Some (ids ++ more)

abbrev pub entity_ids : Name → List EntityMeaning → Option (List Text)
entity_ids ty [] = Some []
entity_ids ty (e ∷ es) = cond (same_name e.name ty) (with_ids e.choices (entity_ids ty es)) (entity_ids ty es)

abbrev pub action_ids : Name → List ActionMeaning → List Text
action_ids ty [] = []
action_ids ty (a ∷ rest) = cond (same_name a.ty ty) (a.id ∷ action_ids ty rest) (action_ids ty rest)

abbrev pub all_ids : SchemaMeaning → Name → Option (List Text)
all_ids m ty = with_ids (entity_ids ty m.entities) (Some (action_ids ty m.actions))

-- the id that goes first: the first choice, or the empty text
abbrev pub first_id : Option (List Text) → Text
first_id (Some (c ∷ cs)) = c
first_id _ = []

-- an id of a type that is named
abbrev pub some_id : SchemaMeaning → Name → Text
some_id m ty = first_id (all_ids m ty)

-- ---- for private clauses: the least of the empty text, `a`, `aa`, .. that is no choice

-- so many times the letter `a`
abbrev pub letters : ℕ → Text
letters n = replicate n 97

-- the text is one of these
abbrev pub has_text : List Text → Text → Bool
has_text [] t = false
has_text (c ∷ cs) t = bytes_eq c t || has_text cs t

-- of at most so many, the first number of letters from k on that makes no choice
abbrev pub first_unused : List Text → ℕ → ℕ → ℕ
first_unused cs zero k = k
first_unused cs (suc more) k = cond (has_text cs (letters k)) (first_unused cs more (k + 1)) k

-- the length of all of them
abbrev pub total_length : List Text → ℕ
total_length [] = 0
total_length (c ∷ cs) = length c + total_length cs

-- how many letters make the least of the empty text, `a`, `aa`, .. that is no choice
abbrev pub unused : List Text → ℕ
unused cs = first_unused cs (total_length cs + 1) 0

-- so many letters make no choice, and fewer make one
abbrev pub IsLeastUnused : List Text → ℕ → Type 0
IsLeastUnused cs n = (has_text cs (letters n) ≡ false) × ((k : ℕ) → k < n → has_text cs (letters k) ≡ true)

-- ---- for private clauses: an id of the one that is none of the other

-- the first of the old choices that is no new one
abbrev pub lost_choice : List Text → List Text → Option Text
lost_choice [] new = None
lost_choice (c ∷ old) new = cond (has_text new c) (lost_choice old new) (Some c)

-- an id that the old choices allow and the new ones do not
abbrev pub lost_id : Option (List Text) → Option (List Text) → Option Text
lost_id old None = None
lost_id None (Some new) = Some (letters (unused new))
lost_id (Some old) (Some new) = lost_choice old new

-- an id that fits in the old meaning and not in the new one
abbrev pub lost_of : SchemaMeaning → SchemaMeaning → Name → Option Text
lost_of old new ty = lost_id (all_ids old ty) (all_ids new ty)

-- the id fits in the old meaning and not in the new one; where there is none, each id that fits in the old one fits in
-- the new one
abbrev pub IsLostId : SchemaMeaning → SchemaMeaning → Name → Option Text → Type 0
IsLostId old new ty found = MatchOption found
    ((id : Text) → Fits old ty id → Fits new ty id)
    (λ id. Fits old ty id × (Fits new ty id → ⊥))
