-- A text as it is laid out: lexemes, and gaps between them.
use Rattle.std.specs.Prelude.{◌≡◌, ℕ, ◌+◌, Bool, true, false, not, ◌||◌, ◌==◌, List, [], ◌∷◌, ◌++◌, length, slice_range}
use Rattle.std.specs.Prelude.{if◌then◌else◌}
use Rattle.std.specs.List.{All}
use Rattle.schema_syntax_grammar.specs.declared.token_kind.TokenKind.{TokenKind}
use Rattle.schema_syntax_grammar.specs.declared.token_kind.TokenKind.TheVariants.{Colon}
use Rattle.schema_syntax_grammar.specs.Grammar.{is_word_kind, same_kind}
use Rattle.schema_syntax_tokens.specs.declared.token.Token.{Token}
use Rattle.schema_syntax_tokens.specs.Forms.{IsForm}
use Rattle.schema_syntax_tokens.specs.Scans.{IsInLine, Scans}

-- a token as it is spelled
pub record Lexeme : Type 0 where
  pub kind : TokenKind
  pub text : List ℕ

-- a gap with these bytes, or a lexeme
pub data Piece : Type 0 where
  gap : List ℕ → Piece
  lexeme : Lexeme → Piece

-- the bytes of a piece: those of the gap, or the lexeme as it is spelled
abbrev pub piece_text : Piece → List ℕ
piece_text (gap bytes) = bytes
piece_text (lexeme x) = x.text

-- the pieces in turn
abbrev pub laid : List Piece → List ℕ
laid [] = []
laid (p ∷ ps) = piece_text p ++ laid ps

-- the lexemes among the pieces
abbrev pub lexemes_of : List Piece → List Lexeme
lexemes_of [] = []
lexemes_of (gap bytes ∷ ps) = lexemes_of ps
lexemes_of (lexeme x ∷ ps) = x ∷ lexemes_of ps

-- the lexemes at their places in the text that begins at this byte
abbrev pub tokens_from : ℕ → List Piece → List Token
tokens_from from [] = []
tokens_from from (gap bytes ∷ ps) = tokens_from (from + length bytes) ps
tokens_from from (lexeme x ∷ ps) =
    record { kind = x.kind; loc = record { start = from; end = from + length x.text } } ∷ tokens_from
    (from + length x.text) ps

-- a space or a line feed
abbrev pub is_plain_blank : ℕ → Bool
is_plain_blank b = b == 32 || b == 10

-- spaces, line feeds, and comments that a line feed ends
pub data AreBlanks : List ℕ → Type 0 where
  none : AreBlanks []
  blank : {b : ℕ} {bs : List ℕ} → is_plain_blank b ≡ true → AreBlanks bs → AreBlanks (b ∷ bs)
  comment : (line : List ℕ) {bs : List ℕ} → All IsInLine line → AreBlanks bs → AreBlanks (47 ∷ 47 ∷ (line ++ 10 ∷ bs))

-- what stands in front: a word keeps a word away, and a colon each lexeme, unless a gap lies between
pub data Edge : Type 0 where
  free : Edge
  word : Edge
  colon : Edge

abbrev pub edge_of : TokenKind → Edge
edge_of k = if is_word_kind k then word else if same_kind k Colon then colon else free

-- whether a lexeme of the kind may follow without a gap
abbrev pub may_touch : Edge → TokenKind → Bool
may_touch free k = true
may_touch word k = not (is_word_kind k)
may_touch colon k = false

abbrev pub is_calm : Edge → Bool
is_calm colon = false
is_calm _ = true

-- The pieces may stand behind this edge: the gaps are blanks, the lexemes are tokens, no two merge, and what may stand
-- behind a word may stand behind the last.
pub data Follow : Edge → List Piece → Type 0 where
  done : {e : Edge} → is_calm e ≡ true → Follow e []
  by_gap : {e : Edge} {b : ℕ} {bs : List ℕ} {ps : List Piece} → AreBlanks (b ∷ bs) → Follow free ps
      → Follow e (gap (b ∷ bs) ∷ ps)
  by_blanks : {e : Edge} {bytes : List ℕ} {ps : List Piece} → AreBlanks bytes → Follow e ps
      → Follow e (gap bytes ∷ ps)
  by_lexeme : {e : Edge} {x : Lexeme} {ps : List Piece} → IsForm x.text x.kind → may_touch e x.kind ≡ true
      → Follow (edge_of x.kind) ps → Follow e (lexeme x ∷ ps)

-- the token of the text is this lexeme, which has the form of its kind
abbrev pub IsSpelled : List ℕ → Token → Lexeme → Type 0
IsSpelled text t x = (t.kind ≡ x.kind) × (slice_range text t.loc.start t.loc.end ≡ x.text) × IsForm x.text x.kind

-- the tokens of the text are these lexemes, in turn
abbrev pub Spells : List ℕ → List Token → List Lexeme → Type 0
Spells text [] [] = Unit {0}
Spells text (t ∷ ts) (x ∷ xs) = IsSpelled text t x × Spells text ts xs
Spells text _ _ = ⊥

-- The text has these tokens to its end, and they are these lexemes.
pub record HasLexemes (text : List ℕ) (xs : List Lexeme) : Type 0 where
  pub tokens : List Token
  pub scans : Scans text tokens (length text)
  pub spells : Spells text tokens xs
