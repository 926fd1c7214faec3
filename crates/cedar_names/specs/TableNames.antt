-- Which names an extension table may have. A name is its list of bytes.
use Rattle.std.specs.Prelude.{ℕ, Bool, not, ◌||◌, List, [], ◌∷◌, take, slice_index_or, codes, Option, Some, None}
use Rattle.std.specs.Prelude.{if◌then◌else◌}
use Rattle.std.specs.List.{list_any}
use Rattle.std.specs.Option.{option_or}
use Rattle.std.specs.Str.{bytes_eq}
use Rattle.cedar_identifiers.specs.Words.{is_reserved, is_cedar}
use Rattle.cedar_data.specs.Words.{is_word}
use Rattle.cedar_names.specs.declared.table_error.TableError.{TableError}
use Rattle.cedar_names.specs.declared.table_error.TableError.TheVariants.{NotWord, Reserved, Builtin, Repeated}

-- the names of what every schema has
abbrev pub builtin_names : List (List ℕ)
builtin_names = codes "Bool" ∷ codes "Long" ∷ codes "String" ∷ codes "Action" ∷ []

abbrev pub is_builtin : List ℕ → Bool
is_builtin w = list_any (bytes_eq w) builtin_names

-- what keeps a name at this position from being one of a table, whatever stands before it
abbrev pub word_fault : ℕ → List ℕ → Option TableError
word_fault at name =
    if not (is_word name) then Some (NotWord at)
    else (if is_reserved name || is_cedar name then Some (Reserved at)
    else (if is_builtin name then Some (Builtin at)
    else None))

-- the name stands among these
abbrev pub repeats : List (List ℕ) → List ℕ → Bool
repeats before name = list_any (bytes_eq name) before

-- what keeps the name at this position of the list from being one of a table
abbrev pub fault_at : List (List ℕ) → ℕ → Option TableError
fault_at names at =
    option_or (word_fault at (slice_index_or names at []))
    (if repeats (take at names) (slice_index_or names at []) then Some (Repeated at) else None)
