-- Where a text stops being the beginning of a schema.
use Rattle.std.specs.Prelude.{◌≡◌, ◌<◌, ℕ, List, [], ◌∷◌, ◌++◌, Some, length, slice_get, slice_range}
use Rattle.std.specs.Str.{chars}
use Rattle.schema_syntax_grammar.specs.declared.token_kind.TokenKind.{TokenKind}
use Rattle.schema_syntax_grammar.specs.declared.token_kind.TheConstants.{ALL_KINDS}
use Rattle.schema_syntax_grammar.specs.Grammar.{Sentence, Viable}
use Rattle.schema_syntax_grammar.specs.Fault.{IsFault}
use Rattle.schema_syntax_tokens.specs.declared.token.Token.{Token}
use Rattle.schema_syntax_tokens.specs.Scans.{Scans}
use Rattle.schema_syntax_tokens.specs.TokenLists.{kinds_of}
use Rattle.schema_syntax.specs.declared.syntax_fault.SyntaxFault.{SyntaxFault}
use Rattle.schema_syntax.specs.declared.syntax_fault.Refused.{Refused}
use Rattle.schema_syntax.specs.declared.syntax_fault.Refused.TheVariants.{Fault, Memory}
use Rattle.schema_syntax.specs.declared.syntax_fault.SyntaxFault.TheVariants.{InvalidToken, UnrecognizedToken}
use Rattle.schema_syntax.specs.declared.syntax_fault.SyntaxFault.TheVariants.{UnrecognizedEof}

-- The fault of the text, one case for each kind of it: a token that no schema has there, a place where no token stands
-- behind tokens with which some schema begins, or the end of tokens that are no schema yet.
pub data IsSyntaxFault (text : List ℕ) : SyntaxFault → Type 0 where
  unrecognized_token : (tokens : List Token) (at place : ℕ) (token : Token) {expected : List TokenKind}
      → Scans text tokens at → slice_get tokens place ≡ Some token
      → IsFault ALL_KINDS (kinds_of tokens) place expected
      → IsSyntaxFault text (UnrecognizedToken token.loc.start (chars (slice_range text token.loc.start token.loc.end))
      token.loc.end expected)
  invalid_token : (tokens : List Token) (at : ℕ) → Scans text tokens at → at < length text → Viable (kinds_of tokens)
      → IsSyntaxFault text (InvalidToken at)
  unrecognized_eof : (tokens : List Token) (last : Token) {expected : List TokenKind}
      → Scans text (tokens ++ last ∷ []) (length text)
      → IsFault ALL_KINDS (kinds_of (tokens ++ last ∷ [])) (length (tokens ++ last ∷ [])) expected
      → IsSyntaxFault text (UnrecognizedEof last.loc.end expected)

-- the text is tokens to its end, and their kinds are those of a schema
pub record IsSentence (text : List ℕ) : Type 0 where
  pub tokens : List Token
  pub scans : Scans text tokens (length text)
  pub sentence : Sentence (kinds_of tokens)

-- why a text is no schema: this is its syntax fault, or memory is out
abbrev pub IsSyntaxRefusal : List ℕ → Refused → Type 0
IsSyntaxRefusal text (Fault fault) = IsSyntaxFault text fault
IsSyntaxRefusal text Memory = Unit {0}

-- the fault is the token at this place
abbrev pub IsTokenAt : List ℕ → List Token → ℕ → List TokenKind → SyntaxFault → Type 0
IsTokenAt text tokens place expected fault =
    (token : Token) × (slice_get tokens place ≡ Some token)
    × (fault ≡ UnrecognizedToken token.loc.start (chars (slice_range text token.loc.start token.loc.end))
    token.loc.end expected)

-- the fault is the end of the last token
abbrev pub IsEndOf : List Token → List TokenKind → SyntaxFault → Type 0
IsEndOf tokens expected fault =
    (front : List Token) × (last : Token) × (tokens ≡ front ++ last ∷ [])
    × (fault ≡ UnrecognizedEof last.loc.end expected)
