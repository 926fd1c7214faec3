-- How many units stand before some bytes of a text.
use Rattle.std.specs.Prelude.{◌≡◌, ℕ, ◌<◌, List, length, take, slice_index}
use Rattle.std.specs.List.{sum_by}
use Rattle.std.specs.Str.{chars, IsCharBoundary}
use Rattle.schema_report.specs.declared.place.Units.TheVariants.{Characters, Utf16}
use Rattle.schema_report.specs.Places.{unit_len}

-- a character begins at the byte, or the text ends there, and so many units stand before it
pub record IsMark (text : List ℕ) (byte characters utf16 : ℕ) : Type 0 where
  pub boundary : IsCharBoundary text byte
  pub in_characters : characters ≡ sum_by (unit_len Characters) (chars (take byte text))
  pub in_utf16 : utf16 ≡ sum_by (unit_len Utf16) (chars (take byte text))

-- these bytes, of which the first is the first of the text, and how many units stand before each
pub record AreMarks (text bytes characters utf16 : List ℕ) : Type 0 where
  pub some : 0 < length bytes
  pub first : slice_index bytes 0 ≡ 0
  pub as_characters : length characters ≡ length bytes
  pub as_utf16 : length utf16 ≡ length bytes
  pub each : (at : ℕ) → at < length bytes
      → IsMark text (slice_index bytes at) (slice_index characters at) (slice_index utf16 at)
