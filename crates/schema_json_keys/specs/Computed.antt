-- The first key that comes again, computed.
use Rattle.std.specs.Prelude.{ℕ, List, [], ◌∷◌, cond, Option, Some, None}
use Rattle.std.specs.List.{list_any}
use Rattle.std.specs.Str.{bytes_eq}
use Rattle.schema_json_keys.specs.Keys.{Key}

-- the name of the key where it comes again, and else what is found later
abbrev pub comes_again : Key → Option (List ℕ) → Option (List ℕ)
comes_again k later = cond (list_any (bytes_eq k.name) k.earlier) (Some k.name) later

-- the name of the first key that comes again in its object, if one does
abbrev pub first_again : List Key → Option (List ℕ)
first_again [] = None
first_again (k ∷ ks) = comes_again k (first_again ks)
