-- What laying out answers: a text with the same pieces, or why there is none.
use Rattle.std.specs.Prelude.{◌≡◌, ℕ, List}
use Rattle.schema_syntax_errors.specs.declared.parse_schema_error.ParseSchemaError.{ParseSchemaError}
use Rattle.schema_syntax_errors.specs.declared.parse_schema_error.ParseSchemaError.TheVariants as parsing
use Rattle.schema_syntax_tokens.specs.declared.token.Token.{Token}
use Rattle.schema_syntax_reader.specs.LawfulTrees.{IsLawfulTree}
use Rattle.schema_syntax_tree.specs.declared.annotated.Annotated.{Annotated}
use Rattle.schema_syntax_tree.specs.declared.namespace.Namespace.{Namespace}
use Rattle.schema_syntax.specs.ParseAnswers.{IsTreeOfText, IsRefusalOf}
use Rattle.schema_layout_pieces.specs.LaidOut.{IsLaidOut, IsLaidOutKept}
use Rattle.schema_layout_texts.specs.declared.layout_error.LayoutError.{LayoutError}
use Rattle.schema_layout_texts.specs.declared.layout_error.LayoutError.TheVariants.{Syntax, Memory}

-- the text has a tree
abbrev pub HasTree : List ℕ → Type 0
HasTree text = (schema : List (Annotated Namespace)) × IsTreeOfText text schema

-- the tokens of the text have a lawful tree
abbrev pub HaveLawfulTree : List ℕ → List Token → Type 0
HaveLawfulTree text tokens = (schema : List (Annotated Namespace)) × IsLawfulTree text tokens schema

-- the error of a text that was not read
abbrev pub layout_error_of : ParseSchemaError → LayoutError
layout_error_of (parsing.Errors errors) = Syntax errors
layout_error_of parsing.Memory = Memory

-- why a text is not laid out: it is not read for these faults, or memory is out
abbrev pub IsLayoutRefusal : List ℕ → LayoutError → Type 0
IsLayoutRefusal text (Syntax errors) = IsRefusalOf text (parsing.Errors errors)
IsLayoutRefusal text Memory = Unit {0}

-- laid out once more, the text is the same
abbrev pub StaysLaidOut : List ℕ → Type 0
StaysLaidOut text = (again : List ℕ) → IsLaidOut text again → again ≡ text

-- laid out once more with its empty lines, the text is the same
abbrev pub StaysLaidOutKept : List ℕ → Type 0
StaysLaidOutKept text = (again : List ℕ) → IsLaidOutKept text again → again ≡ text
