-- How a text is written as a string.
use Rattle.std.specs.Prelude.{◌≡◌, ℕ, ◌/◌, ◌%◌, Bool, List, [], ◌∷◌, ◌++◌, if◌then◌else◌, ◌==◌, ◌||◌, nat_lt}
use Rattle.std.specs.List.{flat_map}
use Rattle.std.specs.Char.{encode_utf8, digit_char}

-- the number below 128 in lower hex, without a leading zero
abbrev pub lower_hex : ℕ → List ℕ
lower_hex c = if nat_lt c 16 then digit_char c ∷ [] else digit_char (c / 16) ∷ digit_char (c % 16) ∷ []

-- an ASCII control, a quote of either kind, or a backslash
abbrev pub is_escaped : ℕ → Bool
is_escaped c = (nat_lt c 32 || c == 127) || ((c == 34 || c == 39) || c == 92)

-- `\0 \t \n \r \" \' \\`, any other ASCII control by its number, and any other character as it is
abbrev pub quoted_char : ℕ → List ℕ
quoted_char c =
    if c == 0 then 92 ∷ 48 ∷ []
    else (if c == 9 then 92 ∷ 116 ∷ []
    else (if c == 10 then 92 ∷ 110 ∷ []
    else (if c == 13 then 92 ∷ 114 ∷ []
    else (if c == 34 then 92 ∷ 34 ∷ []
    else (if c == 39 then 92 ∷ 39 ∷ []
    else (if c == 92 then 92 ∷ 92 ∷ []
    else (if nat_lt c 32 || c == 127 then 92 ∷ 117 ∷ 123 ∷ (lower_hex c ++ 125 ∷ [])
    else encode_utf8 c)))))))

-- the characters of a string, between its quotes
abbrev pub quoted_body : List ℕ → List ℕ
quoted_body cs = flat_map quoted_char cs

-- the text as a string
abbrev pub quoted : List ℕ → List ℕ
quoted cs = 34 ∷ (quoted_body cs ++ 34 ∷ [])

-- a front of what is to be written stands behind the old text: all but left
abbrev pub HasWritten : List ℕ → List ℕ → List ℕ → List ℕ → Type 0
HasWritten old new all left = (written : List ℕ) × (new ≡ old ++ written) × (all ≡ written ++ left)

-- some front of what is to be written stands behind the old text
abbrev pub WritesFront : List ℕ → List ℕ → List ℕ → Type 0
WritesFront old new all = (left : List ℕ) × HasWritten old new all left
