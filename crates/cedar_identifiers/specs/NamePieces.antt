-- The pieces of a name, and the blanks among them. A text is its list of bytes, and so is a piece.
use Rattle.std.specs.Prelude.{◌≡◌, ◌≢◌, ℕ, ◌<◌, Bool, false, ◌&&◌, ◌==◌, List, [], ◌∷◌, length, take, drop, codes}
use Rattle.std.specs.Prelude.{if◌then◌else◌}
use Rattle.std.specs.List.{list_any, prefix_len}
use Rattle.std.specs.Str.{chars}
use Rattle.std.specs.Char.{is_whitespace, encode_utf8, is_ascii_digit}
use Rattle.cedar_data.specs.Words.{is_word_start, is_word_part, is_in_line}

-- how many bytes the first of the characters has, if it is White_Space
abbrev pub space_len : List ℕ → ℕ
space_len [] = 0
space_len (c ∷ cs) = if is_whitespace c then length (encode_utf8 c) else 0

-- this byte stands twice at the front
abbrev pub starts_twice : ℕ → List ℕ → Bool
starts_twice b [] = false
starts_twice b (c ∷ []) = false
starts_twice b (c ∷ d ∷ bs) = c == b && d == b

-- how many bytes the blank at the front has: `//` and all up to LF, CR or the end, or one character with White_Space
unfoldable pub blank_len : List ℕ → ℕ
blank_len text = if starts_twice 47 text then prefix_len is_in_line text else space_len (chars text)

-- a piece of one character
abbrev pub is_mark : ℕ → Bool
is_mark b = list_any (λ m. m == b) (codes "!&()*+,-./:;<=>?@[]{|}")

-- how many bytes the piece at the front has: a word, a run of digits, `::` or a mark
abbrev pub piece_len : List ℕ → ℕ
piece_len [] = 0
piece_len (b ∷ bs) =
    if is_word_start b then prefix_len is_word_part (b ∷ bs)
    else (if is_ascii_digit b then prefix_len is_ascii_digit (b ∷ bs)
    else (if starts_twice 58 (b ∷ bs) then 2
    else (if is_mark b then 1
    else 0)))

-- The text begins with these pieces in turn, blanks among them, and rest follows.
pub data BeginsWith : List ℕ → List (List ℕ) → List ℕ → Type 0 where
  here : {text : List ℕ} → BeginsWith text [] text
  blank : {text rest : List ℕ} {pieces : List (List ℕ)} → 0 < blank_len text
      → BeginsWith (drop (blank_len text) text) pieces rest → BeginsWith text pieces rest
  piece : {text rest : List ℕ} {pieces : List (List ℕ)} → blank_len text ≡ 0 → 0 < piece_len text
      → BeginsWith (drop (piece_len text) text) pieces rest
      → BeginsWith text (take (piece_len text) text ∷ pieces) rest

-- the text isn't over, and neither a blank nor a piece stands at its front
pub record NothingStands (text : List ℕ) : Type 0 where
  pub some : text ≢ []
  pub no_blank : blank_len text ≡ 0
  pub no_piece : piece_len text ≡ 0
