-- What the tokens of a text are.
use Rattle.std.specs.Prelude.{◌≡◌, ◌≢◌, ℕ, ◌+◌, ◌≤◌, true, ◌⊎◌, List, [], ◌∷◌, ◌++◌, length, take, drop, ◌<◌}
use Rattle.std.specs.Prelude.{slice_range}
use Rattle.std.specs.List.{All}
use Rattle.std.specs.Char.{is_whitespace, encode_utf8}
use Rattle.std.specs.Str.{IsCharBoundary}
use Rattle.schema_syntax_grammar.specs.declared.token_kind.TokenKind.{TokenKind}
use Rattle.schema_syntax_tokens.specs.declared.token.Token.{Token}
use Rattle.schema_syntax_tokens.specs.Forms.{IsForm}

-- a character with White_Space
abbrev pub IsSpace : List ℕ → Type 0
IsSpace b = (c : ℕ) × (is_whitespace c ≡ true) × (b ≡ encode_utf8 c)

-- neither LF nor CR
abbrev pub IsInLine : ℕ → Type 0
IsInLine b = (b ≢ 10) × (b ≢ 13)

-- the line ends before these bytes
abbrev pub EndsLine : List ℕ → Type 0
EndsLine [] = Unit {0}
EndsLine (b ∷ bs) = (b ≡ 10) ⊎ (b ≡ 13)

-- `//` and all up to the end of the line, which after begins
abbrev pub IsComment : List ℕ → List ℕ → Type 0
IsComment b after = (line : List ℕ) × (b ≡ 47 ∷ 47 ∷ line) × All IsInLine line × EndsLine after

-- b is a blank, and after follows it
abbrev pub IsBlank : List ℕ → List ℕ → Type 0
IsBlank b after = IsSpace b ⊎ IsComment b after

-- no blank begins these bytes
abbrev pub NoBlank : List ℕ → Type 0
NoBlank rest = (b after : List ℕ) → rest ≡ b ++ after → IsBlank b after → ⊥

-- rest is one blank, and then after
abbrev pub IsPastBlank : List ℕ → List ℕ → Type 0
IsPastBlank rest after = (b : List ℕ) × (rest ≡ b ++ after) × IsBlank b after

-- rest is blanks, and then after
pub data Skips : List ℕ → List ℕ → Type 0 where
  none : {rest : List ℕ} → Skips rest rest
  more : {rest after end : List ℕ} → IsPastBlank rest after → Skips after end → Skips rest end

-- no form starts there
abbrev pub NoForm : List ℕ → Type 0
NoForm rest = (m : ℕ) (k : TokenKind) → IsForm (take m rest) k → ⊥

-- the first n bytes of rest are a token of this kind, and no longer text of any form starts there
pub record IsLongest (rest : List ℕ) (k : TokenKind) (n : ℕ) : Type 0 where
  pub in_range : n ≤ length rest
  pub form : IsForm (take n rest) k
  pub longest : (m : ℕ) (l : TokenKind) → m ≤ length rest → IsForm (take m rest) l → m ≤ n

-- rest, which begins at the byte from, is blanks and then this token, the first n bytes of here
pub record IsNext (from : ℕ) (rest : List ℕ) (t : Token) (here : List ℕ) (n : ℕ) : Type 0 where
  pub skips : Skips rest here
  pub token : IsLongest here t.kind n
  pub start : t.loc.start + length here ≡ from + length rest
  pub stop : t.loc.end ≡ t.loc.start + n

-- rest begins at the byte from, and the tokens stop at the byte at
abbrev pub ScansFrom : ℕ → List ℕ → List Token → ℕ → Type 0
ScansFrom from rest [] at = (here : List ℕ) × Skips rest here × (at + length here ≡ from + length rest) × NoBlank here
    × NoForm here
ScansFrom from rest (t ∷ ts) at =
    (here : List ℕ) × (n : ℕ) × IsNext from rest t here n × ScansFrom t.loc.end (drop n here) ts at

-- The text before the byte at is blanks and these tokens in turn, and there neither a blank nor a token begins.
abbrev pub Scans : List ℕ → List Token → ℕ → Type 0
Scans text ts at = ScansFrom 0 text ts at

-- the token's place lies in the text, between characters, and holds a token of its kind
pub record IsPlaced (text : List ℕ) (t : Token) : Type 0 where
  pub in_order : t.loc.start < t.loc.end
  pub start : IsCharBoundary text t.loc.start
  pub stop : IsCharBoundary text t.loc.end
  pub form : IsForm (slice_range text t.loc.start t.loc.end) t.kind
