-- The pieces of a text: its tokens and its comments.
use Rattle.std.specs.Prelude.{◌≡◌, ℕ, Bool, true, false, not, ◌&&◌, ◌||◌, ◌==◌, List, [], ◌∷◌, ◌++◌, length}
use Rattle.std.specs.List.{All}
use Rattle.std.specs.Char.{is_whitespace, encode_utf8}
use Rattle.schema_syntax_grammar.specs.declared.token_kind.TokenKind.{TokenKind}
use Rattle.schema_syntax_tokens.specs.Laid.{Lexeme}
use Rattle.schema_syntax_tokens.specs.Scans.{IsInLine, EndsLine, IsLongest}

-- a token as it is spelled, or a comment: whether it is beside the piece before it, and what stands behind its `//`
pub data SourcePiece : Type 0 where
  token : Lexeme → SourcePiece
  comment : Bool → List ℕ → SourcePiece

-- the piece as it is spelled
abbrev pub spelling : SourcePiece → List ℕ
spelling (token x) = x.text
spelling (comment beside line) = 47 ∷ 47 ∷ line

-- the tokens among the pieces
abbrev pub lexemes_among : List SourcePiece → List Lexeme
lexemes_among [] = []
lexemes_among (token x ∷ ps) = x ∷ lexemes_among ps
lexemes_among (comment beside line ∷ ps) = lexemes_among ps

-- the kinds of these
abbrev pub kinds_among : List SourcePiece → List TokenKind
kinds_among [] = []
kinds_among (token x ∷ ps) = x.kind ∷ kinds_among ps
kinds_among (comment beside line ∷ ps) = kinds_among ps

-- LF or CR
abbrev pub ends_line : ℕ → Bool
ends_line c = c == 10 || c == 13

-- The rest of a text has these pieces, to its end. The first argument says whether a piece stands before the rest with
-- no line's end between; a comment there is beside that piece.
pub data HasPieces : Bool → List ℕ → List SourcePiece → Type 0 where
  none : {near : Bool} → HasPieces near [] []
  blank : {near : Bool} {rest : List ℕ} {ps : List SourcePiece} (c : ℕ) → is_whitespace c ≡ true
      → HasPieces (near && not (ends_line c)) rest ps → HasPieces near (encode_utf8 c ++ rest) ps
  note : {near : Bool} {rest : List ℕ} {ps : List SourcePiece} (line : List ℕ) → All IsInLine line → EndsLine rest
      → HasPieces false rest ps → HasPieces near (47 ∷ 47 ∷ (line ++ rest)) (comment near line ∷ ps)
  lexeme : {near : Bool} {rest : List ℕ} {ps : List SourcePiece} (x : Lexeme)
      → IsLongest (x.text ++ rest) x.kind (length x.text) → HasPieces true rest ps
      → HasPieces near (x.text ++ rest) (token x ∷ ps)

-- the text has these pieces: none stands before the first
abbrev pub IsPieces : List ℕ → List SourcePiece → Type 0
IsPieces text ps = HasPieces false text ps
