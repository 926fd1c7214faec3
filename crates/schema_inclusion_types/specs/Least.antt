-- The least of names that are sorted.
use Rattle.std.specs.Prelude.{ℕ, List, [], ◌∷◌, Option, Some, None}
use Rattle.std.specs.Cmp.Lexicographic.{slice_cmp}
use Rattle.std.specs.Ordering.{match_ordering}
use Rattle.cedar_data.specs.Text.{text_cmp}

-- the first of names in order
abbrev pub least : List (List (List ℕ)) → Option (List (List ℕ))
least [] = None
least (n ∷ ns) = Some n

-- the lesser of a name and another, where there is another
abbrev pub lesser : List (List ℕ) → Option (List (List ℕ)) → List (List ℕ)
lesser n None = n
lesser n (Some m) = match_ordering (slice_cmp text_cmp n m) n m m
