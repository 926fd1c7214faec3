-- The first characters of a text.
use Rattle.std.specs.Prelude.{◌≡◌, ℕ, ◌∷◌, ◌++◌, List, take}
use Rattle.std.specs.Char.{encode_utf8}
use Rattle.std.specs.Str.{chars, IsUtf8, encode_utf8_all}

-- the text begins with the character, and this follows
pub record IsFirstChar (text : List ℕ) (first : ℕ) (rest : List ℕ) : Type 0 where
  pub bytes : text ≡ encode_utf8 first ++ rest
  pub characters : chars text ≡ first ∷ chars rest
  pub utf8 : IsUtf8 rest

-- the rest of the text is what follows so many characters, or is empty
pub record IsPast (text : List ℕ) (count : ℕ) (rest : List ℕ) : Type 0 where
  pub front : List ℕ
  pub cut : text ≡ encode_utf8_all front ++ rest
  pub characters : chars text ≡ front ++ chars rest
  pub counted : front ≡ take count (chars text)
  pub utf8 : IsUtf8 rest
