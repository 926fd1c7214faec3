-- What a text comes to: one tree, one syntax fault, or the user fault that ends first.
use Rattle.std.specs.Prelude.{◌≡◌, ℕ, List, [], ◌∷◌, length}
use Rattle.schema_syntax_grammar.specs.Grammar.{Sentence}
use Rattle.schema_syntax_tokens.specs.declared.token.Token.{Token}
use Rattle.schema_syntax_tokens.specs.Scans.{Scans}
use Rattle.schema_syntax_tokens.specs.TokenLists.{kinds_of}
use Rattle.schema_syntax.specs.declared.syntax_fault.SyntaxFault.{SyntaxFault}
use Rattle.schema_syntax.specs.declared.syntax_fault.SyntaxFault.TheVariants as fault
use Rattle.schema_syntax.specs.SyntaxFaults.{IsSyntaxFault}
use Rattle.schema_syntax_tree.specs.declared.annotated.Annotated.{Annotated}
use Rattle.schema_syntax_tree.specs.declared.namespace.Namespace.{Namespace}
use Rattle.schema_syntax_errors.specs.declared.user_error.UserError.{UserError}
use Rattle.schema_syntax_errors.specs.declared.parse_error.ParseError.{ParseError}
use Rattle.schema_syntax_errors.specs.declared.parse_error.ParseError.TheVariants.{InvalidToken, UnrecognizedEof}
use Rattle.schema_syntax_errors.specs.declared.parse_error.ParseError.TheVariants.{UnrecognizedToken, User}
use Rattle.schema_syntax_errors.specs.declared.parse_schema_error.ParseSchemaError.{ParseSchemaError}
use Rattle.schema_syntax_errors.specs.declared.parse_schema_error.ParseSchemaError.TheVariants.{Errors, Memory}
use Rattle.schema_syntax_reader.specs.LawfulTrees.{IsLawfulTree, IsUserFaultOf}

-- the text is tokens to its end, and their kinds are those of a schema
pub record AreTokensOf (text : List ℕ) (tokens : List Token) : Type 0 where
  pub scans : Scans text tokens (length text)
  pub sentence : Sentence (kinds_of tokens)

-- the text is lawful, and this is its tree
pub record IsTreeOfText (text : List ℕ) (schema : List (Annotated Namespace)) : Type 0 where
  pub tokens : List Token
  pub are : AreTokensOf text tokens
  pub tree : IsLawfulTree text tokens schema

-- a syntax fault as an error
abbrev pub error_of : SyntaxFault → ParseError
error_of (fault.InvalidToken at) = InvalidToken at
error_of (fault.UnrecognizedEof at expected) = UnrecognizedEof at expected
error_of (fault.UnrecognizedToken start token end expected) = UnrecognizedToken start token end expected

-- The error of the text: its syntax fault, or, where it has none, of its user faults the one that ends first.
pub data IsErrorOf (text : List ℕ) : ParseError → Type 0 where
  syntax : (f : SyntaxFault) → IsSyntaxFault text f → IsErrorOf text (error_of f)
  user : (tokens : List Token) (f : UserError) → AreTokensOf text tokens → IsUserFaultOf text tokens f
      → IsErrorOf text (User f)

-- why a text has no tree: this is its one error, or memory is out
abbrev pub IsRefusalOf : List ℕ → ParseSchemaError → Type 0
IsRefusalOf text Memory = Unit {0}
IsRefusalOf text (Errors errors) = (error : ParseError) × (errors.errors ≡ error ∷ []) × IsErrorOf text error
