-- A text that has a tree has no error.
use Rattle.std.proofs.Common.{◌≡◌, ℕ, List, length, subst}
use Rattle.schema_syntax_tokens.specs.declared.token.Token.{Token}
use Rattle.schema_syntax_tokens.specs.Scans.{Scans}
use Rattle.schema_syntax_parser.specs.declared.syntax.ItemSyntax.{ItemSyntax}
use Rattle.schema_syntax_parser.specs.Syntax.{IsSyntax}
use Rattle.schema_syntax.specs.declared.syntax_fault.SyntaxFault.{SyntaxFault}
use Rattle.schema_syntax.specs.SyntaxFaults.{IsSyntaxFault, IsSentence}
use Rattle.schema_syntax_tree.specs.declared.annotated.Annotated.{Annotated}
use Rattle.schema_syntax_tree.specs.declared.namespace.Namespace.{Namespace}
use Rattle.schema_syntax_errors.specs.declared.parse_error.ParseError.{ParseError}
use Rattle.schema_syntax_reader.specs.UserFaults.{IsFirstUserFault}
use Rattle.schema_syntax.specs.ParseAnswers.{IsTreeOfText, IsErrorOf, syntax, user}

module _ (faulty : (text : List ℕ) (fault : SyntaxFault) → IsSyntaxFault text fault → IsSentence text → ⊥)
    (one_scan : (text : List ℕ) (ts us : List Token) (at bt : ℕ) → Scans text ts at → Scans text us bt
    → (ts ≡ us) × (at ≡ bt))
    (one_syntax : (tokens : List Token) (items others : List ItemSyntax) → IsSyntax tokens items
    → IsSyntax tokens others → items ≡ others) where
  pub apart : (text : List ℕ) (schema : List (Annotated Namespace)) (error : ParseError) → IsTreeOfText text schema
      → IsErrorOf text error → ⊥
  apart text schema error t (syntax f s) =
      faulty text f s (record { tokens = t.tokens; scans = t.are.scans; sentence = t.are.sentence })
  apart text schema error t (user tokens f are u) =
      let same = one_scan text tokens t.tokens (length text) (length text) are.scans t.are.scans in
      let here : IsSyntax t.tokens u.items = subst (λ ts. IsSyntax ts u.items) same.0 u.syntax in
      let items = one_syntax t.tokens u.items t.tree.items here t.tree.syntax in
      let first : IsFirstUserFault text t.tree.items f = subst (λ xs. IsFirstUserFault text xs f) items u.first in
      t.tree.lawful f first.end first.has
