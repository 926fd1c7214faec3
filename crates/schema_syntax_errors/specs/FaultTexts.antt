-- What the faults of parsing say.
use Rattle.std.specs.Prelude.{ℕ, List, [], ◌∷◌, ◌++◌, codes}
use Rattle.schema_syntax_errors.specs.declared.user_error.UserError.{UserError}
use Rattle.schema_syntax_errors.specs.declared.user_error.UserError.TheVariants.{EmptyList, StringEscape}
use Rattle.schema_syntax_errors.specs.declared.user_error.UserError.TheVariants.{ReservedIdentifierUsed}
use Rattle.schema_syntax_errors.specs.declared.user_error.UserError.TheVariants.{DuplicateAnnotations}
use Rattle.schema_syntax_errors.specs.declared.parse_error.ParseError.{ParseError}
use Rattle.schema_syntax_errors.specs.declared.parse_error.ParseError.TheVariants.{InvalidToken, UnrecognizedEof}
use Rattle.schema_syntax_errors.specs.declared.parse_error.ParseError.TheVariants.{UnrecognizedToken, ExtraToken, User}
use Rattle.schema_syntax_errors.specs.declared.parse_schema_error.ParseSchemaError.{ParseSchemaError}
use Rattle.schema_syntax_errors.specs.declared.parse_schema_error.ParseSchemaError.TheVariants as schema
use Rattle.schema_syntax_errors.specs.declared.annotation_error.AnnotationError.{AnnotationError}
use Rattle.schema_syntax_errors.specs.declared.annotation_error.AnnotationError.TheVariants as annotation

-- what a user fault says
abbrev pub user_error_text : UserError → List ℕ
user_error_text (EmptyList place) = codes "An empty list was passed"
user_error_text (StringEscape faults) = codes "Invalid escape codes"
user_error_text (ReservedIdentifierUsed word) = codes "`" ++ (word.node ++ codes "` is a reserved identifier")
user_error_text (DuplicateAnnotations key first second) = codes "duplicate annotations: `" ++ (key.text ++ codes "`")

-- what an error of parsing says
abbrev pub parse_error_text : ParseError → List ℕ
parse_error_text (InvalidToken location) = codes "invalid token"
parse_error_text (UnrecognizedEof location expected) = codes "unexpected end of input"
parse_error_text (UnrecognizedToken start token end expected) = codes "unexpected token `" ++ (token ++ codes "`")
parse_error_text (ExtraToken start token end) = codes "extra token `" ++ (token ++ codes "`")
parse_error_text (User fault) = user_error_text fault

-- what the first of the faults says
abbrev pub first_error_text : List ParseError → List ℕ
first_error_text [] = []
first_error_text (first ∷ others) = parse_error_text first

-- what the first of the errors says
abbrev pub parse_schema_error_text : ParseSchemaError → List ℕ
parse_schema_error_text (schema.Errors faults) = first_error_text faults.errors
parse_schema_error_text schema.Memory = codes "out of memory"

-- what is said of a key that stands twice
abbrev pub annotation_error_text : AnnotationError → List ℕ
annotation_error_text (annotation.User fault) = user_error_text fault
annotation_error_text annotation.Memory = codes "out of memory"
