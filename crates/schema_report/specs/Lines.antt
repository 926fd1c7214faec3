-- The lines of a text.
use Rattle.std.specs.Prelude.{◌≡◌, ℕ, ◌+◌, ◌-◌, ◌<◌, ◌≤◌, Bool, not, ◌==◌, nat_lt, List, length, take, drop}
use Rattle.std.specs.Prelude.{slice_index}
use Rattle.std.specs.Prelude.{if◌then◌else◌, Option, Some, None}
use Rattle.std.specs.List.{sum_by, take_while}
use Rattle.std.specs.Borrow.{Bor}
use Rattle.std.specs.Str.{chars, IsCharBoundary}
use Rattle.schema_report.specs.declared.place.Units.{Units}
use Rattle.schema_report.specs.Places.{is_feed, feeds, place_at, unit_len, units_at}

-- the line begins at this byte: so many line feeds stand before it, and the last of them right before it
pub record IsLineStart (text : List ℕ) (line start : ℕ) : Type 0 where
  pub within : start ≤ length text
  pub before : feeds (take start text) ≡ line
  pub behind : 0 < start → slice_index text (start - 1) ≡ 10

-- where the lines of a text begin, one after another
pub record AreLineStarts (text starts : List ℕ) : Type 0 where
  pub all : length starts ≡ feeds text + 1
  pub each : (line : ℕ) → line < length starts → IsLineStart text line (slice_index starts line)

-- the line that begins at `start` ends at `end`: before a line feed, or with the text
pub record IsLineEnd (text : List ℕ) (line start end : ℕ) : Type 0 where
  pub behind : start ≤ end
  pub within : end ≤ length text
  pub same : feeds (take end text) ≡ line
  pub stops : end < length text → slice_index text end ≡ 10

-- no line feed
abbrev pub is_no_feed : ℕ → Bool
is_no_feed b = not (is_feed b)

-- the line begins at this byte, and these are its bytes up to a line feed or the end
pub record IsLineFrom (text : List ℕ) (line start : ℕ) (bytes : List ℕ) : Type 0 where
  pub begins : IsLineStart text line start
  pub whole : bytes ≡ take_while is_no_feed (drop start text)

-- the bytes without a carriage return at their end
abbrev pub without_return : List ℕ → List ℕ
without_return bytes = if slice_index bytes (length bytes - 1) == 13 then take (length bytes - 1) bytes else bytes

-- a text that may be lent
abbrev pub lent : Option (Bor (List ℕ)) → Option (List ℕ)
lent None = None
lent (Some text) = Some text.now

-- a text, and where its lines begin
pub record TextLines : Type 0 where
  pub text : List ℕ
  pub starts : List ℕ

-- what stands in a line, without its line feed and a carriage return before it, and none where there is no such line
abbrev pub line_in : TextLines → ℕ → Option (List ℕ)
line_in lines line = if nat_lt line (length lines.starts)
    then Some (without_return (take_while is_no_feed (drop (slice_index lines.starts line) lines.text)))
    else None

-- the byte of a line has so many units of it ahead
pub record IsColumnIn (line : List ℕ) (units : Units) (column at : ℕ) : Type 0 where
  pub boundary : IsCharBoundary line at
  pub ahead : sum_by (unit_len units) (chars (take at line)) ≡ column

-- the byte stands at this line and column
pub record IsColumnAt (text : List ℕ) (units : Units) (line column byte : ℕ) : Type 0 where
  pub boundary : IsCharBoundary text byte
  pub in_line : (place_at text byte).line ≡ line
  pub in_column : units_at units (place_at text byte) ≡ column
