-- The names that no declared common type may have, and what a refusal says.
use Rattle.std.specs.Prelude.{ℕ, Bool, List, [], ◌∷◌, ◌++◌, codes}
use Rattle.std.specs.List.{list_any}
use Rattle.std.specs.Str.{bytes_eq}

abbrev pub keyword_names : List (List ℕ)
keyword_names = codes "Bool" ∷ codes "Boolean" ∷ codes "Entity" ∷ codes "Extension" ∷ codes "Long" ∷ codes "Record"
    ∷ codes "Set" ∷ codes "String" ∷ []

-- the word names a type or a kind of types already
abbrev pub is_keyword_name : List ℕ → Bool
is_keyword_name w = list_any (λ k. bytes_eq w k) keyword_names

-- what is said of a common type that has such a name
abbrev pub reserved_text : List ℕ → List ℕ
reserved_text w = codes "this is reserved and cannot be the basename of a common-type declaration: " ++ w
