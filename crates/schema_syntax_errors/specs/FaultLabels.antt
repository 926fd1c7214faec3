-- Where the faults of parsing point to.
use Rattle.std.specs.Prelude.{ℕ, List, [], ◌∷◌, ◌++◌, Option, Some, None, max}
use Rattle.cedar_data.specs.Span.{Span}
use Rattle.cedar_data.specs.declared.label.Label.{Label}
use Rattle.schema_syntax_grammar.specs.declared.token_kind.TokenKind.{TokenKind}
use Rattle.schema_syntax_errors.specs.ExpectedText.{expected_text_of}
use Rattle.schema_syntax_errors.specs.declared.user_error.UserError.{UserError}
use Rattle.schema_syntax_errors.specs.declared.user_error.UserError.TheVariants.{EmptyList, StringEscape}
use Rattle.schema_syntax_errors.specs.declared.user_error.UserError.TheVariants.{ReservedIdentifierUsed}
use Rattle.schema_syntax_errors.specs.declared.user_error.UserError.TheVariants.{DuplicateAnnotations}
use Rattle.schema_syntax_errors.specs.declared.parse_error.ParseError.{ParseError}
use Rattle.schema_syntax_errors.specs.declared.parse_error.ParseError.TheVariants.{InvalidToken, UnrecognizedEof}
use Rattle.schema_syntax_errors.specs.declared.parse_error.ParseError.TheVariants.{UnrecognizedToken, ExtraToken, User}
use Rattle.schema_syntax_errors.specs.declared.parse_schema_error.ParseSchemaError.{ParseSchemaError}
use Rattle.schema_syntax_errors.specs.declared.parse_schema_error.ParseSchemaError.TheVariants as schema
use Rattle.schema_syntax_errors.specs.declared.annotation_error.AnnotationError.{AnnotationError}
use Rattle.schema_syntax_errors.specs.declared.annotation_error.AnnotationError.TheVariants as annotation

-- the place from `start` to `end`, and the empty one at `start` where `end` is before it
abbrev pub place : ℕ → ℕ → Span
place start end = record { start = start; end = max start end }

-- a label without a text, where there is a place
abbrev pub unnamed_label : Option Span → List Label
unnamed_label None = []
unnamed_label (Some span) = record { span = span; text = None } ∷ []

-- a label that says what was expected there
abbrev pub expected_label : Span → List TokenKind → List Label
expected_label span expected = record { span = span; text = Some (expected_text_of expected) } ∷ []

-- the places that a user fault points to, with what it says there
abbrev pub user_error_labels : UserError → List Label
user_error_labels (EmptyList place) = unnamed_label place.loc
user_error_labels (StringEscape faults) = unnamed_label faults.loc
user_error_labels (ReservedIdentifierUsed word) = unnamed_label word.loc
user_error_labels (DuplicateAnnotations key first second) = unnamed_label first.loc ++ unnamed_label second.loc

-- the places that an error of parsing points to, with what it says there
abbrev pub parse_error_labels : ParseError → List Label
parse_error_labels (InvalidToken location) = unnamed_label (Some (place location location))
parse_error_labels (UnrecognizedEof location expected) = expected_label (place location location) expected
parse_error_labels (UnrecognizedToken start token end expected) = expected_label (place start end) expected
parse_error_labels (ExtraToken start token end) = unnamed_label (Some (place start end))
parse_error_labels (User fault) = user_error_labels fault

-- where the first of the faults points to
abbrev pub first_error_labels : List ParseError → List Label
first_error_labels [] = []
first_error_labels (first ∷ others) = parse_error_labels first

-- the places of the first of the errors
abbrev pub parse_schema_error_labels : ParseSchemaError → List Label
parse_schema_error_labels (schema.Errors faults) = first_error_labels faults.errors
parse_schema_error_labels schema.Memory = []

-- the places of both keys
abbrev pub annotation_error_labels : AnnotationError → List Label
annotation_error_labels (annotation.User fault) = user_error_labels fault
annotation_error_labels annotation.Memory = []

-- the place of the first label
abbrev pub primary_span : List Label → Option Span
primary_span [] = None
primary_span (label ∷ labels) = Some label.span
