-- Names that are much like one that is not known, as characters.
use Rattle.std.specs.Prelude.{ℕ, ◌*◌, max, Bool, ◌==◌, ◌&&◌, nat_le, List, ◌++◌, length, take, filter}
use Rattle.std.specs.Str.{encode_utf8_all}
use Rattle.strsim.specs.Edits.{osa_table}

-- How many edits lead from one name to the other: a character that is added, left out or another, or two neighbours
-- that change places.
abbrev pub edits_between : List ℕ → List ℕ → ℕ
edits_between name other = (osa_table name other).last_row (length other)

-- how many bytes a name takes
abbrev pub name_size : List ℕ → ℕ
name_size name = length (encode_utf8_all name)

-- So many edits lead from the name to the other, and they are no more than a third of its bytes, or one. Names of more
-- than 64 bytes are like none.
abbrev pub is_alike : List ℕ → ℕ → List ℕ → Bool
is_alike name edits other = (nat_le (name_size name) 64 && nat_le (name_size other) 64)
    && (nat_le (3 * edits) (max (name_size name) 3) && edits_between name other == edits)

-- the known names that are like this one: those at one edit, then those at two and at three
abbrev pub likes : List ℕ → List (List ℕ) → List (List ℕ)
likes name known = (filter (is_alike name 1) known ++ filter (is_alike name 2) known) ++ filter (is_alike name 3) known

-- the first three of them
abbrev pub did_you_mean : List ℕ → List (List ℕ) → List (List ℕ)
did_you_mean name known = take 3 (likes name known)
