-- How deep brackets are nested, outside of strings and comments.
use Rattle.std.specs.Prelude.{◌≡◌, ◌+◌, ◌<◌, ◌++◌, ◌==◌, ◌&&◌, ◌||◌, ℕ, Bool, true, false, List, [], ◌∷◌}
use Rattle.std.specs.Prelude.{if◌then◌else◌}
use Rattle.cedar_nesting.specs.declared.nesting.Place.{Place}
use Rattle.cedar_nesting.specs.declared.nesting.Place.TheVariants.{Outside, BehindSlash, InComment, InString}
use Rattle.cedar_nesting.specs.declared.nesting.Place.TheVariants.{BehindBackslash}
use Rattle.cedar_nesting.specs.declared.nesting.TheConstants.{DEEPEST}

-- where the next byte stands, behind one outside of strings and comments: a quote begins a string
abbrev pub past_bare : Place → ℕ → Place
past_bare slashed b = if b == 34 then InString else (if b == 47 then slashed else Outside)

-- where the next byte stands, behind this one: `//` begins a comment, which ends with its line
abbrev pub past : Place → ℕ → Place
past Outside b = past_bare BehindSlash b
past BehindSlash b = past_bare InComment b
past InComment b = if (b == 10 || b == 13) then Outside else InComment
past InString b = if b == 34 then Outside else (if b == 92 then BehindBackslash else InString)
past BehindBackslash b = InString

-- in no string and in no comment
abbrev pub is_outside : Place → Bool
is_outside Outside = true
is_outside BehindSlash = true
is_outside _ = false

-- one of `( { [ <`
abbrev pub opens : ℕ → Bool
opens b = b == 40 || b == 123 || b == 91 || b == 60

-- one of `) } ] >`
abbrev pub closes : ℕ → Bool
closes b = b == 41 || b == 125 || b == 93 || b == 62

-- how many of the bytes are such and stand outside of strings and comments; the first of them stands there
abbrev pub number_of : (ℕ → Bool) → Place → List ℕ → ℕ
number_of is_such place [] = 0
number_of is_such place (b ∷ bs) =
    (if (is_outside place && is_such b) then 1 else 0) + number_of is_such (past place b) bs

-- at some place, more than `DEEPEST` of the brackets before it are open
pub record IsTooDeep (bytes : List ℕ) : Type 0 where
  pub front : List ℕ
  pub rest : List ℕ
  pub place : bytes ≡ front ++ rest
  pub deep : number_of closes Outside front + DEEPEST < number_of opens Outside front
