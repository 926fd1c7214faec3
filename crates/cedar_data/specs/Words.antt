-- Words, and the lines that comments end with. All of them are ASCII, so it is the same of bytes and of characters.
use Rattle.std.specs.Prelude.{ℕ, Bool, false, not, ◌&&◌, ◌||◌, ◌==◌, List, [], ◌∷◌}
use Rattle.std.specs.Char.{is_ascii_alphabetic, is_ascii_alphanumeric}
use Rattle.std.specs.List.{list_all}

-- a letter or `_`
abbrev pub is_word_start : ℕ → Bool
is_word_start c = is_ascii_alphabetic c || c == 95

-- a letter, a digit or `_`
abbrev pub is_word_part : ℕ → Bool
is_word_part c = is_ascii_alphanumeric c || c == 95

-- `[_a-zA-Z][_a-zA-Z0-9]*`
abbrev pub is_word : List ℕ → Bool
is_word [] = false
is_word (c ∷ cs) = is_word_start c && list_all is_word_part cs

-- neither LF nor CR
abbrev pub is_in_line : ℕ → Bool
is_in_line b = not (b == 10 || b == 13)
