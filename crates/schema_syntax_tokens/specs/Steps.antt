-- What the steps of the scanner, of the escapes and of quoting find.
use Rattle.std.specs.Prelude.{◌≡◌, ◌≢◌, ℕ, ◌<◌, ◌≤◌, Bool, true, false, not, ◌==◌, List, [], ◌∷◌, ◌++◌, length, take}
use Rattle.std.specs.Prelude.{slice_index}
use Rattle.std.specs.List.{All}
use Rattle.std.specs.Char.{is_digit, IsScalar}
use Rattle.cedar_data.specs.Words.{is_word_start}
use Rattle.schema_syntax_tokens.specs.Escapes.{hex_value, digits_of, ArePlaces}
use Rattle.schema_syntax_tokens.specs.Quotes.{is_escaped, quoted_char}

-- the bytes begin with a letter or `_`
abbrev pub StartsWord : List ℕ → Type 0
StartsWord [] = ⊥
StartsWord (b ∷ bs) = is_word_start b ≡ true

-- the bytes begin with `"`
abbrev pub StartsString : List ℕ → Type 0
StartsString [] = ⊥
StartsString (b ∷ bs) = b ≡ 34

-- the bytes begin with neither
abbrev pub StartsOther : List ℕ → Type 0
StartsOther [] = Unit {0}
StartsOther (b ∷ bs) = (is_word_start b ≡ false) × (b ≢ 34)

-- the bytes begin with `::`
abbrev pub StartsColons : List ℕ → Type 0
StartsColons [] = ⊥
StartsColons (b ∷ []) = ⊥
StartsColons (b ∷ c ∷ bs) = (b ≡ 58) × (c ≡ 58)

-- the bytes begin with `//`
abbrev pub StartsComment : List ℕ → Type 0
StartsComment [] = ⊥
StartsComment (b ∷ []) = ⊥
StartsComment (b ∷ c ∷ bs) = (b ≡ 47) × (c ≡ 47)

-- a byte that is printed, but no slash: no blank begins with it
abbrev pub IsPrinted : ℕ → Type 0
IsPrinted b = (32 < b) × ((b < 127) × (b ≢ 47))

-- the bytes are the body between two quotes
abbrev pub IsBetweenQuotes : List ℕ → List ℕ → Type 0
IsBetweenQuotes part body = part ≡ 34 ∷ (body ++ 34 ∷ [])

abbrev pub NotBetweenQuotes : List ℕ → Type 0
NotBetweenQuotes part = (body : List ℕ) → part ≡ 34 ∷ (body ++ 34 ∷ []) → ⊥

-- no backslash
abbrev pub is_unescaped : ℕ → Bool
is_unescaped b = not (b == 92)

-- the bytes begin with two hex digits of the value c, which is at most 7F
abbrev pub IsHexPair : List ℕ → ℕ → Type 0
IsHexPair rest c = (a : ℕ) × (b : ℕ) × (after : List ℕ) × (rest ≡ a ∷ b ∷ after) × (is_digit a 16 ≡ true)
    × (is_digit b 16 ≡ true)
    × (c ≡ hex_value 0 (a ∷ b ∷ [])) × (c ≤ 127)

abbrev pub NoHexPair : List ℕ → Type 0
NoHexPair rest = (c : ℕ) → IsHexPair rest c → ⊥

-- the bytes are places of the value v
abbrev pub HasPlaces : List ℕ → ℕ → Type 0
HasPlaces places v = ArePlaces places × (v ≡ hex_value 0 (digits_of places))

abbrev pub NoPlaces : List ℕ → Type 0
NoPlaces places = ArePlaces places → ⊥

-- the first n bytes are places of the value c, a character, and then `}` comes
pub record IsBraced (rest : List ℕ) (n c : ℕ) : Type 0 where
  pub in_range : n < length rest
  pub places : ArePlaces (take n rest)
  pub brace : slice_index rest n ≡ 125
  pub value : c ≡ hex_value 0 (digits_of (take n rest))
  pub scalar : IsScalar c

-- the bytes begin with no such places and `}`
abbrev pub NoBraced : List ℕ → Type 0
NoBraced rest = (places after : List ℕ) → rest ≡ places ++ 125 ∷ after → ArePlaces places
    → IsScalar (hex_value 0 (digits_of places)) → ⊥

-- none of these bytes is escaped in a string
abbrev pub NoneEscaped : List ℕ → Type 0
NoneEscaped bs = All (λ b. is_escaped b ≡ false) bs

-- the byte at this place is the first that is escaped, and text is how it is written
pub record IsNextEscape (rest : List ℕ) (at : ℕ) (text : List ℕ) : Type 0 where
  pub in_range : at < length rest
  pub plain : NoneEscaped (take at rest)
  pub escaped : is_escaped (slice_index rest at) ≡ true
  pub written : text ≡ quoted_char (slice_index rest at)
