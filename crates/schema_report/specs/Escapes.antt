-- How characters are written where they may not stand as they are.
use Rattle.std.specs.Prelude.{ℕ, ◌+◌, Bool, ◌==◌, ◌&&◌, ◌||◌, if◌then◌else◌, nat_lt, nat_le, List, [], ◌∷◌, codes}
use Rattle.schema_report.specs.declared.escape.Escape.{Escape}
use Rattle.schema_report.specs.declared.escape.Escape.TheVariants.{Screen, Message, Property}

-- a control above ASCII, or a character that turns the direction of the text
abbrev pub is_unseen : ℕ → Bool
is_unseen c = (nat_le 0x80 c && nat_le c 0x9f) || (nat_le 0x202a c && nat_le c 0x202e)
    || (nat_le 0x2066 c && nat_le c 0x2069)

-- the character, or a sign for one that a terminal does not show: a control of ASCII has a picture of its own
abbrev pub visible : ℕ → ℕ
visible c = if nat_lt c 0x20 then 0x2400 + c else (if c == 0x7f then 0x2421 else (if is_unseen c then 0xfffd else c))

-- on a terminal: a tab is four spaces
abbrev pub on_screen : ℕ → List ℕ
on_screen c = if c == 9 then codes "    " else visible c ∷ []

-- in the message of a GitHub workflow command
abbrev pub in_message : ℕ → List ℕ
in_message c =
    if c == 37 then codes "%25" else (if c == 13 then codes "%0D" else (if c == 10 then codes "%0A" else c ∷ []))

-- in a property of a GitHub workflow command
abbrev pub in_property : ℕ → List ℕ
in_property c = if c == 58 then codes "%3A" else (if c == 44 then codes "%2C" else in_message c)

-- a character as it is written for a place
abbrev pub written_for : Escape → ℕ → List ℕ
written_for Screen c = on_screen c
written_for Message c = in_message c
written_for Property c = in_property c
