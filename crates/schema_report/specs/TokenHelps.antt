-- Advice where no token begins, by the character that stands there.
use Rattle.std.specs.Prelude.{ℕ, ◌+◌, ◌/◌, ◌%◌, Bool, false, ◌==◌, ◌&&◌, ◌||◌, if◌then◌else◌, nat_lt, nat_le}
use Rattle.std.specs.Prelude.{List, [], ◌∷◌, ◌++◌, drop, codes, Option, Some, None}
use Rattle.std.specs.Char.{is_ascii_digit}
use Rattle.std.specs.Str.{chars}
use Rattle.schema_report.specs.Escapes.{on_screen}
use Rattle.schema_report.specs.Reports.{is_between_chars}

-- ---- a code point, in four to six hexadecimal digits

-- a digit, with capital letters from ten on
abbrev pub hex_digit : ℕ → ℕ
hex_digit d = if nat_lt d 10 then 48 + d else 55 + d

-- the digit for a unit, which is a power of 16
abbrev pub digit_at : ℕ → ℕ → ℕ
digit_at code unit = hex_digit (code / unit % 16)

-- that digit, where the number is no smaller than the unit
abbrev pub high_digit : ℕ → ℕ → List ℕ
high_digit code unit = if nat_lt code unit then [] else digit_at code unit ∷ []

-- the code point of a character
abbrev pub code_point : ℕ → List ℕ
code_point code = high_digit code 0x10_0000 ++ (high_digit code 0x1_0000 ++ (digit_at code 0x1000 ∷ []
    ++ (digit_at code 0x100 ∷ [] ++ (digit_at code 0x10 ∷ [] ++ digit_at code 1 ∷ []))))

-- ---- the advice

-- an asterisk stands first
abbrev pub begins_with_star : List ℕ → Bool
begins_with_star [] = false
begins_with_star (c ∷ cs) = c == 42

-- advice that does not name the character, given what follows it
abbrev pub plain_help : ℕ → List ℕ → Option (List ℕ)
plain_help c rest =
    if c == 0xfeff then Some (codes "a byte order mark (U+FEFF) stands here: save the file without one")
    else if c == 0
    then Some (codes "a NUL character (U+0000) stands here: the file may be UTF-16, so save it as UTF-8")
    else if c == 34 then Some (codes "a string that does not end")
    else if c == 35 then Some (codes "a comment begins with `//`")
    else if (c == 47) && begins_with_star rest then Some (codes "a comment begins with `//` and ends with its line")
    else if is_ascii_digit c then Some (codes "a word cannot begin with a digit")
    else None

-- a quotation mark that Cedar does not have: ', `, and those of other languages
abbrev pub is_quote : ℕ → Bool
is_quote c = (c == 39) || (c == 96) || (c == 0xab) || (c == 0xbb) || (nat_le 0x2018 c && nat_le c 0x201f)

-- what the character does not begin
abbrev pub ending : ℕ → List ℕ
ending c = if is_quote c then codes ") begins no string: strings stand between `\"`" else codes ") begins no token"

-- advice that names the character and its code point
abbrev pub named_help : ℕ → List ℕ
named_help c = codes "`" ++ (on_screen c ++ (codes "` (U+" ++ (code_point c ++ ending c)))

-- the advice, or else another
abbrev pub help_or : Option (List ℕ) → List ℕ → List ℕ
help_or (Some help) other = help
help_or None other = other

-- the advice on a character, given what follows it
abbrev pub help_for : ℕ → List ℕ → List ℕ
help_for c rest = help_or (plain_help c rest) (named_help c)

-- the advice on the first character, where there is one
abbrev pub help_on : List ℕ → Option (List ℕ)
help_on [] = None
help_on (c ∷ rest) = Some (help_for c rest)

-- the advice on the character at this byte, where one stands there
abbrev pub token_help : List ℕ → ℕ → Option (List ℕ)
token_help text byte = if is_between_chars text byte then help_on (chars (drop byte text)) else None
