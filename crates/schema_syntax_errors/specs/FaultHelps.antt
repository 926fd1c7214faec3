-- What the faults of parsing advise.
use Rattle.std.specs.Prelude.{ℕ, Bool, false, ◌&&◌, ◌||◌, ◌==◌, nat_lt, nat_le, List, [], ◌∷◌, length, take, reverse}
use Rattle.std.specs.Prelude.{find, slice_index, codes, Option, Some, None, if◌then◌else◌}
use Rattle.std.specs.Char.{is_not_whitespace}
use Rattle.std.specs.Option.{option_map_or}
use Rattle.std.specs.Str.{byte, bytes_eq, chars}
use Rattle.schema_syntax_grammar.specs.declared.token_kind.TokenKind.{TokenKind}
use Rattle.schema_syntax_grammar.specs.declared.token_kind.TokenKind.TheVariants.{KwNamespace, KwAppliesTo}
use Rattle.schema_syntax_errors.specs.ExpectedText.{expects}
use Rattle.schema_syntax_errors.specs.declared.parse_error.ParseError.{ParseError}
use Rattle.schema_syntax_errors.specs.declared.parse_error.ParseError.TheVariants.{InvalidToken, UnrecognizedEof}
use Rattle.schema_syntax_errors.specs.declared.parse_error.ParseError.TheVariants.{UnrecognizedToken, ExtraToken, User}
use Rattle.schema_syntax_errors.specs.declared.parse_schema_error.ParseSchemaError.{ParseSchemaError}
use Rattle.schema_syntax_errors.specs.declared.parse_schema_error.ParseSchemaError.TheVariants as schema

abbrev pub missing_applies_to : List ℕ
missing_applies_to = codes "action declarations require `appliesTo` before the `{ ... }` block"

abbrev pub trailing_namespace_semicolon : List ℕ
trailing_namespace_semicolon = codes "namespace declarations are not followed by `;`; try removing this semicolon"

-- a character of the source begins at the place, or the source ends there
abbrev pub is_boundary : List ℕ → ℕ → Bool
is_boundary source place = place == length source ||
    (nat_lt place (length source) && (nat_lt (slice_index source place) 128 || nat_le 192 (slice_index source place)))

-- the last of the characters that is no white space
abbrev pub last_visible : List ℕ → Option ℕ
last_visible characters = find is_not_whitespace (reverse characters)

-- the last character of the text that is no white space is `}`
abbrev pub ends_in_brace : List ℕ → Bool
ends_in_brace text = option_map_or (λ c. c == byte "}") (last_visible (chars text)) false

-- the place is a boundary of the source, and what stands before it ends in `}` but for white space
abbrev pub follows_brace : List ℕ → ℕ → Bool
follows_brace source place = is_boundary source place && ends_in_brace (take place source)

-- a block is opened where `appliesTo` may stand
abbrev pub misses_applies_to : List ℕ → List TokenKind → Bool
misses_applies_to token expected = bytes_eq token (codes "{") && expects expected KwAppliesTo

-- a `;` stands behind a `}` where a namespace may
abbrev pub ends_namespace : ℕ → List ℕ → List TokenKind → List ℕ → Bool
ends_namespace start token expected source =
    bytes_eq token (codes ";") && (expects expected KwNamespace && follows_brace source start)

-- Advice on a token that stands where others were expected. The first rule that holds decides.
abbrev pub token_help : ℕ → List ℕ → List TokenKind → List ℕ → Option (List ℕ)
token_help start token expected source =
    if misses_applies_to token expected then Some missing_applies_to else if ends_namespace start token expected
    source then Some trailing_namespace_semicolon else None

-- the advice that an error of parsing gives for a source, if it gives any
abbrev pub parse_error_help : ParseError → List ℕ → Option (List ℕ)
parse_error_help (InvalidToken location) source = None
parse_error_help (UnrecognizedEof location expected) source = None
parse_error_help (UnrecognizedToken start token end expected) source = token_help start token expected source
parse_error_help (ExtraToken start token end) source = None
parse_error_help (User fault) source = None

-- what the first of the faults advises
abbrev pub first_error_help : List ParseError → List ℕ → Option (List ℕ)
first_error_help [] source = None
first_error_help (first ∷ others) source = parse_error_help first source

-- the advice of the first of the errors
abbrev pub parse_schema_error_help : ParseSchemaError → List ℕ → Option (List ℕ)
parse_schema_error_help (schema.Errors faults) source = first_error_help faults.errors source
parse_schema_error_help schema.Memory source = None
