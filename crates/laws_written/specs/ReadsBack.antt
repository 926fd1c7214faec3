-- A text that reads back as what is written.
use Rattle.std.specs.Prelude.{ℕ, List, length}
use Rattle.std.specs.List.{AllZip}
use Rattle.schema_syntax_tokens.specs.declared.token.Token.{Token}
use Rattle.schema_syntax_tokens.specs.Scans.{Scans}
use Rattle.schema_syntax_parser.specs.declared.syntax.ItemSyntax.{ItemSyntax}
use Rattle.schema_syntax_parser.specs.Syntax.{IsSyntax}
use Rattle.schema_syntax_tree.specs.declared.annotated.Annotated.{Annotated}
use Rattle.schema_syntax_tree.specs.declared.namespace.Namespace.{Namespace}
use Rattle.schema_syntax_reader.specs.Trees.{IsTreeOf}
use Rattle.schema_syntax_reader.specs.UserFaults.{IsLawful}
use Rattle.laws_written.specs.Written.{WrittenItem}
use Rattle.laws_written.specs.Shows.{SaysItem}

-- The text has tokens to its end, these have a syntax, it is lawful, and its tree says what is written.
pub record ReadsBack (text : List ℕ) (written : List WrittenItem) : Type 0 where
  pub tokens : List Token
  pub scans : Scans text tokens (length text)
  pub items : List ItemSyntax
  pub syntax : IsSyntax tokens items
  pub lawful : IsLawful text items
  pub tree : List (Annotated Namespace)
  pub is : IsTreeOf text items tree
  pub says : AllZip SaysItem tree written
