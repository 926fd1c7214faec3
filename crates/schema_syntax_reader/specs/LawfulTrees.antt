-- What the tokens of a schema come to: one tree, or the user fault that ends first.
use Rattle.std.specs.Prelude.{ℕ, List}
use Rattle.schema_syntax_tokens.specs.declared.token.Token.{Token}
use Rattle.schema_syntax_parser.specs.declared.syntax.ItemSyntax.{ItemSyntax}
use Rattle.schema_syntax_parser.specs.Syntax.{IsSyntax}
use Rattle.schema_syntax_tree.specs.declared.annotated.Annotated.{Annotated}
use Rattle.schema_syntax_tree.specs.declared.namespace.Namespace.{Namespace}
use Rattle.schema_syntax_errors.specs.declared.user_error.UserError.{UserError}
use Rattle.schema_syntax_reader.specs.UserFaults.{IsFirstUserFault, IsLawful}
use Rattle.schema_syntax_reader.specs.Trees.{IsTreeOf}
use Rattle.schema_syntax_reader.specs.declared.stopped.Stopped.{Stopped}
use Rattle.schema_syntax_reader.specs.declared.stopped.Stopped.TheVariants.{Memory, User}

-- the syntax of the tokens is lawful, and this is its tree
pub record IsLawfulTree (source : List ℕ) (tokens : List Token) (schema : List (Annotated Namespace)) : Type 0 where
  pub items : List ItemSyntax
  pub syntax : IsSyntax tokens items
  pub lawful : IsLawful source items
  pub tree : IsTreeOf source items schema

-- of the user faults of the syntax of the tokens, this one ends first
pub record IsUserFaultOf (source : List ℕ) (tokens : List Token) (fault : UserError) : Type 0 where
  pub items : List ItemSyntax
  pub syntax : IsSyntax tokens items
  pub first : IsFirstUserFault source items fault

-- why the tokens have no lawful tree: of their user faults this one ends first, or memory is out
abbrev pub IsStopOf : List ℕ → List Token → Stopped → Type 0
IsStopOf source tokens Memory = Unit {0}
IsStopOf source tokens (User fault) = IsUserFaultOf source tokens fault
