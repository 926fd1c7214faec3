-- Faults of texts, and what holds them, are equal exactly where they are the same.
use Rattle.std.proofs.Common.{◌≡◌, Bool, true, ◌&&◌, ◌==◌, List, refl, ap}
use Rattle.std.specs.Cmp.{first_so, second_so}
use Rattle.std.specs.Cmp.Lexicographic.{pointwise}
use Rattle.std.proofs.lemmas.Bool.{and_from, eqb-true}
use denote.Enum.Bare.{sameb}
use Rattle.schema_syntax_grammar.specs.declared.token_kind.TokenKind.{TokenKind}
use Rattle.schema_syntax_grammar.specs.contracts.token_kind.TokenKind.{the_type}
use Rattle.schema_syntax_errors.specs.declared.parse_error.ParseError.{ParseError}
use Rattle.schema_syntax_errors.specs.declared.parse_error.ParseError.TheVariants.{InvalidToken, UnrecognizedEof}
use Rattle.schema_syntax_errors.specs.declared.parse_error.ParseError.TheVariants.{UnrecognizedToken, ExtraToken, User}
use Rattle.schema_syntax_errors.specs.declared.parse_errors.ParseErrors.{ParseErrors}
use Rattle.schema_syntax_errors.specs.declared.parse_schema_error.ParseSchemaError.{ParseSchemaError}
use Rattle.schema_syntax_errors.specs.declared.parse_schema_error.ParseSchemaError.TheVariants as schema
use Rattle.schema_syntax_errors.specs.declared.annotation_error.AnnotationError.{AnnotationError}
use Rattle.schema_syntax_errors.specs.declared.annotation_error.AnnotationError.TheVariants as annotation
use Rattle.schema_syntax_errors.specs.contracts.parse_error.ParseErrorPartialEq.TheImpl as parse_error_eq
use Rattle.schema_syntax_errors.specs.contracts.parse_errors.ParseErrorsPartialEq.TheImpl as parse_errors_eq
use Rattle.schema_syntax_errors.specs.contracts.parse_schema_error.ParseSchemaErrorPartialEq.TheImpl as schema_eq
use Rattle.schema_syntax_errors.specs.contracts.annotation_error.AnnotationErrorPartialEq.TheImpl as annotation_eq
use Rattle.schema_syntax_errors.specs.SameFaults.{texts_agree, texts_sound, texts_themselves, items_sound}
use Rattle.schema_syntax_errors.specs.SameFaults.{items_themselves, user_errors_sound, user_errors_themselves}
use Rattle.schema_syntax_errors.specs.SameFaults.{eqb_itself}
use Rattle.schema_syntax_errors.proofs.SameKinds.{kinds_sound, kinds_themselves}

-- lists of kinds
abbrev kinds_agree : List TokenKind → List TokenKind → Bool
kinds_agree = pointwise (sameb the_type)

all_kinds_sound : (xs ys : List TokenKind) → kinds_agree xs ys ≡ true → xs ≡ ys
all_kinds_sound = items_sound {E = sameb the_type} kinds_sound

all_kinds_themselves : (xs : List TokenKind) → kinds_agree xs xs ≡ true
all_kinds_themselves = items_themselves (sameb the_type) kinds_themselves

-- faults of texts
abbrev parse_errors_agree : ParseError → ParseError → Bool
parse_errors_agree = (parse_error_eq.ghosts).eq

pub parse_errors_sound : (a b : ParseError) → parse_errors_agree a b ≡ true → a ≡ b
parse_errors_sound (InvalidToken p) (InvalidToken q) h = ap InvalidToken (eqb-true p q h)
parse_errors_sound (UnrecognizedEof p xs) (UnrecognizedEof q ys) h =
    let place = eqb-true p q (first_so (p == q) (kinds_agree xs ys) h) in
    let kinds = all_kinds_sound xs ys (second_so (p == q) (kinds_agree xs ys) h) in
    λ i. UnrecognizedEof (place i) (kinds i)
parse_errors_sound (UnrecognizedToken p v d xs) (UnrecognizedToken q w e ys) h =
    let start = eqb-true p q (first_so (p == q) (texts_agree v w && (d == e && kinds_agree xs ys)) h) in
    let others = second_so (p == q) (texts_agree v w && (d == e && kinds_agree xs ys)) h in
    let token = texts_sound v w (first_so (texts_agree v w) (d == e && kinds_agree xs ys) others) in
    let last = second_so (texts_agree v w) (d == e && kinds_agree xs ys) others in
    let end = eqb-true d e (first_so (d == e) (kinds_agree xs ys) last) in
    let kinds = all_kinds_sound xs ys (second_so (d == e) (kinds_agree xs ys) last) in
    λ i. UnrecognizedToken (start i) (token i) (end i) (kinds i)
parse_errors_sound (ExtraToken p v d) (ExtraToken q w e) h =
    let start = eqb-true p q (first_so (p == q) (texts_agree v w && d == e) h) in
    let others = second_so (p == q) (texts_agree v w && d == e) h in
    let token = texts_sound v w (first_so (texts_agree v w) (d == e) others) in
    let end = eqb-true d e (second_so (texts_agree v w) (d == e) others) in
    λ i. ExtraToken (start i) (token i) (end i)
parse_errors_sound (User a) (User b) h = ap User (user_errors_sound a b h)
parse_errors_sound _ _ h = cc

pub parse_errors_themselves : (a : ParseError) → parse_errors_agree a a ≡ true
parse_errors_themselves (InvalidToken p) = eqb_itself p
parse_errors_themselves (UnrecognizedEof p xs) =
    and_from (p == p) (kinds_agree xs xs) (eqb_itself p) (all_kinds_themselves xs)
parse_errors_themselves (UnrecognizedToken p v d xs) =
    and_from (p == p) (texts_agree v v && (d == d && kinds_agree xs xs)) (eqb_itself p)
    (and_from (texts_agree v v) (d == d && kinds_agree xs xs) (texts_themselves v)
    (and_from (d == d) (kinds_agree xs xs) (eqb_itself d) (all_kinds_themselves xs)))
parse_errors_themselves (ExtraToken p v d) =
    and_from (p == p) (texts_agree v v && d == d) (eqb_itself p)
    (and_from (texts_agree v v) (d == d) (texts_themselves v) (eqb_itself d))
parse_errors_themselves (User a) = user_errors_themselves a

-- lists of them
abbrev lists_agree : ParseErrors → ParseErrors → Bool
lists_agree = (parse_errors_eq.ghosts).eq

pub lists_sound : (a b : ParseErrors) → lists_agree a b ≡ true → a ≡ b
lists_sound a b h = λ i. record
    { errors = items_sound {E = parse_errors_agree} parse_errors_sound a.errors b.errors h i }

pub lists_themselves : (a : ParseErrors) → lists_agree a a ≡ true
lists_themselves a = items_themselves parse_errors_agree parse_errors_themselves a.errors

-- why a text was not read
abbrev schema_errors_agree : ParseSchemaError → ParseSchemaError → Bool
schema_errors_agree = (schema_eq.ghosts).eq

pub schema_errors_sound : (a b : ParseSchemaError) → schema_errors_agree a b ≡ true → a ≡ b
schema_errors_sound (schema.Errors a) (schema.Errors b) h = ap schema.Errors (lists_sound a b h)
schema_errors_sound schema.Memory schema.Memory h = refl
schema_errors_sound _ _ h = cc

pub schema_errors_themselves : (a : ParseSchemaError) → schema_errors_agree a a ≡ true
schema_errors_themselves (schema.Errors a) = lists_themselves a
schema_errors_themselves schema.Memory = refl

-- why annotations were not put on an item
abbrev annotation_errors_agree : AnnotationError → AnnotationError → Bool
annotation_errors_agree = (annotation_eq.ghosts).eq

pub annotation_errors_sound : (a b : AnnotationError) → annotation_errors_agree a b ≡ true → a ≡ b
annotation_errors_sound (annotation.User a) (annotation.User b) h = ap annotation.User (user_errors_sound a b h)
annotation_errors_sound annotation.Memory annotation.Memory h = refl
annotation_errors_sound _ _ h = cc

pub annotation_errors_themselves : (a : AnnotationError) → annotation_errors_agree a a ≡ true
annotation_errors_themselves (annotation.User a) = user_errors_themselves a
annotation_errors_themselves annotation.Memory = refl
