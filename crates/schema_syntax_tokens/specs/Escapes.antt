-- What the body of a string stands for.
use Rattle.std.specs.Prelude.{◌≡◌, ◌≢◌, ℕ, ◌+◌, ◌*◌, ◌≤◌, Bool, true, not, ◌||◌, ◌⊎◌, List, [], ◌∷◌, ◌++◌, Option, Some}
use Rattle.std.specs.Prelude.{None, length, take, slice_index, if◌then◌else◌, ◌==◌}
use Rattle.std.specs.List.{AllPass, filter}
use Rattle.std.specs.Char.{encode_utf8, is_digit, digit_value, IsScalar}
use Rattle.schema_syntax_tokens.specs.declared.escapes.Refusal.{Refusal}
use Rattle.schema_syntax_tokens.specs.declared.escapes.Refusal.TheVariants.{Memory, Escape}

-- `\n \r \t \\ \0 \' \"`, by what follows the backslash
abbrev pub simple_escape : ℕ → Option ℕ
simple_escape b =
    if b == 110 then Some 10
    else (if b == 114 then Some 13
    else (if b == 116 then Some 9
    else (if b == 92 then Some 92
    else (if b == 48 then Some 0
    else (if b == 39 then Some 39
    else (if b == 34 then Some 34
    else None))))))

-- the digits' value, behind digits of the value n
abbrev pub hex_value : ℕ → List ℕ → ℕ
hex_value n [] = n
hex_value n (d ∷ ds) = hex_value (n * 16 + digit_value d) ds

-- a hex digit or `_`
abbrev pub is_place : ℕ → Bool
is_place b = is_digit b 16 || b == 95

-- the places without the `_`
abbrev pub digits_of : List ℕ → List ℕ
digits_of places = filter (λ b. not (b == 95)) places

-- one to six hex digits, the first place a digit, and `_` among them
pub record ArePlaces (places : List ℕ) : Type 0 where
  pub first : is_digit (slice_index places 0) 16 ≡ true
  pub each : AllPass is_place places
  pub few : length (digits_of places) ≤ 6

-- `\n` and its like
abbrev pub IsSimple : List ℕ → ℕ → Type 0
IsSimple e c = (b : ℕ) × (e ≡ 92 ∷ b ∷ []) × (simple_escape b ≡ Some c)

-- `\xHH`, up to 7F
abbrev pub IsHex : List ℕ → ℕ → Type 0
IsHex e c = (a : ℕ) × (b : ℕ) × (e ≡ 92 ∷ 120 ∷ a ∷ b ∷ []) × (is_digit a 16 ≡ true) × (is_digit b 16 ≡ true)
    × (c ≡ hex_value 0 (a ∷ b ∷ [])) × (c ≤ 127)

-- `\u{H}`
abbrev pub IsUnicode : List ℕ → ℕ → Type 0
IsUnicode e c = (places : List ℕ) × (e ≡ 92 ∷ 117 ∷ 123 ∷ (places ++ 125 ∷ [])) × ArePlaces places
    × (c ≡ hex_value 0 (digits_of places)) × IsScalar c

-- a lawful escape, and its character
abbrev pub IsEscape : List ℕ → ℕ → Type 0
IsEscape e c = IsSimple e c ⊎ (IsHex e c ⊎ IsUnicode e c)

-- the first n bytes are an escape for c
pub record IsEscapeTo (rest : List ℕ) (n c : ℕ) : Type 0 where
  pub in_range : n ≤ length rest
  pub escape : IsEscape (take n rest) c

-- a piece of a body: an escape, or a character other than `\`, which stands for itself
abbrev pub IsPieceFor : List ℕ → ℕ → Type 0
IsPieceFor piece c = ((piece ≡ encode_utf8 c) × (c ≢ 92)) ⊎ IsEscape piece c

-- the body stands for these characters
abbrev pub Unescapes : List ℕ → List ℕ → Type 0
Unescapes body [] = body ≡ []
Unescapes body (c ∷ cs) = (piece : List ℕ) × (rest : List ℕ) × (body ≡ piece ++ rest) × IsPieceFor piece c
    × Unescapes rest cs

-- no lawful escape starts there
abbrev pub NoEscape : List ℕ → Type 0
NoEscape rest = (e after : List ℕ) (c : ℕ) → rest ≡ e ++ after → IsEscape e c → ⊥

-- The body before the byte at unescapes, a backslash stands there, and no lawful escape starts there.
pub record BadEscape (body : List ℕ) (at : ℕ) : Type 0 where
  pub front : List ℕ
  pub value : List ℕ
  pub rest : List ℕ
  pub split : body ≡ front ++ 92 ∷ rest
  pub place : at ≡ length front
  pub unescapes : Unescapes front value
  pub unlawful : NoEscape (92 ∷ rest)

-- why a body stands for nothing: an unlawful escape is at this byte, the first; or memory is out
abbrev pub IsRefused : List ℕ → Refusal → Type 0
IsRefused body Memory = Unit {0}
IsRefused body (Escape at) = BadEscape body at
