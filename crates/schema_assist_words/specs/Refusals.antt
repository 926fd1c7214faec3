-- Where nothing is said of what may stand at a place.
use Rattle.std.specs.Prelude.{◌≡◌, ℕ, List, Some, take, slice_get, slice_range}
use Rattle.std.specs.Str.{IsCharBoundary, chars}
use Rattle.cedar_data.specs.Span.{Span}
use Rattle.schema_syntax.specs.SyntaxFaults.{IsSyntaxFault}
use Rattle.schema_syntax.specs.ParseAnswers.{error_of}
use Rattle.schema_syntax.specs.declared.syntax_fault.SyntaxFault.{SyntaxFault}
use Rattle.schema_syntax.specs.declared.syntax_fault.SyntaxFault.TheVariants.{UnrecognizedEof}
use Rattle.schema_syntax_errors.specs.declared.parse_error.ParseError.{ParseError}
use Rattle.schema_syntax_errors.specs.declared.parse_error.ParseError.TheVariants.{UnrecognizedToken}
use Rattle.schema_syntax_grammar.specs.declared.token_kind.TokenKind.{TokenKind}
use Rattle.schema_syntax_tokens.specs.declared.token.Token.{Token}
use Rattle.schema_assist_words.specs.declared.text_before.AssistError.{AssistError}
use Rattle.schema_assist_words.specs.declared.text_before.AssistError.TheVariants.{BadPlace, Syntax, Memory}
use Rattle.schema_assist_words.specs.Before.{IsPartialWord}

-- the fault stands within the text, and is not that the text ends
abbrev pub IsWithin : SyntaxFault → Type 0
IsWithin (UnrecognizedEof at expected) = ⊥
IsWithin _ = Unit {0}

-- the syntax fault of the head without its partial word, other than that it ends
pub record IsHeadFault (head : List ℕ) (error : ParseError) : Type 0 where
  pub partial : Span
  pub fault : SyntaxFault
  pub partial_word : IsPartialWord head partial
  pub is : IsSyntaxFault (take partial.start head) fault
  pub within : IsWithin fault
  pub told : error ≡ error_of fault

-- Why: the place is no place of the text, the head has a fault, or memory is out.
abbrev pub IsAssistRefusal : List ℕ → ℕ → AssistError → Type 0
IsAssistRefusal text at BadPlace = IsCharBoundary text at → ⊥
IsAssistRefusal text at (Syntax error) = IsCharBoundary text at × IsHeadFault (take at text) error
IsAssistRefusal text at Memory = Unit {0}

-- the error is the token at this place, where one of these kinds may come
abbrev pub IsTokenError : List ℕ → List Token → ℕ → List TokenKind → ParseError → Type 0
IsTokenError text tokens place expected error =
    (token : Token) × (slice_get tokens place ≡ Some token)
    × (error ≡ UnrecognizedToken token.loc.start (chars (slice_range text token.loc.start token.loc.end))
    token.loc.end expected)
