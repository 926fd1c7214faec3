-- Where a byte of a text stands. All counts are from 0.
use Rattle.std.specs.Prelude.{ℕ, Bool, ◌==◌, if◌then◌else◌, List, [], ◌∷◌, length, take, nat_lt}
use Rattle.std.specs.List.{count_by, sum_by}
use Rattle.std.specs.Str.{chars}
use Rattle.schema_report.specs.declared.place.Place.{Place}
use Rattle.schema_report.specs.declared.place.Units.{Units}
use Rattle.schema_report.specs.declared.place.Units.TheVariants.{Characters, Utf16}

-- a line feed
abbrev pub is_feed : ℕ → Bool
is_feed b = b == 10

-- how many line feeds stand among the bytes
abbrev pub feeds : List ℕ → ℕ
feeds bytes = count_by is_feed bytes

-- the bytes behind the last line feed among them
abbrev pub since_feed : List ℕ → List ℕ
since_feed [] = []
since_feed (b ∷ bs) = if nat_lt 0 (feeds (b ∷ bs)) then since_feed bs else b ∷ bs

-- how many UTF-16 units a character takes
abbrev pub utf16_len : ℕ → ℕ
utf16_len c = if nat_lt c 0x1_0000 then 1 else 2

-- the place before which these bytes stand: the line feeds among them, and the characters and UTF-16 units since the
-- last
abbrev pub place_behind : List ℕ → Place
place_behind bytes = record {
  byte = length bytes;
  line = feeds bytes;
  column = length (chars (since_feed bytes));
  utf16 = sum_by utf16_len (chars (since_feed bytes));
}

-- the place of a byte of a text
abbrev pub place_at : List ℕ → ℕ → Place
place_at text byte = place_behind (take byte text)

-- how many units a character takes
abbrev pub unit_len : Units → ℕ → ℕ
unit_len Characters c = 1
unit_len Utf16 c = utf16_len c

-- the column of a place, in these units
abbrev pub units_at : Units → Place → ℕ
units_at Characters place = place.column
units_at Utf16 place = place.utf16
