-- What is advised is ASCII: its characters are its bytes.
use Rattle.std.proofs.Common.{◌≡◌, ℕ, Bool, true, false, List, Option, Some, None, refl, sym, subst, cond}
use Rattle.std.specs.Option.{MatchOption}
use Rattle.std.specs.Prelude.{⊤}
use Rattle.std.specs.Str.{chars}
use Rattle.cedar_data.proofs.Ascii.{chars-from_test}
use Rattle.schema_syntax_errors.specs.declared.parse_error.ParseError.{ParseError}
use Rattle.schema_syntax_errors.specs.declared.parse_error.ParseError.TheVariants.{InvalidToken, UnrecognizedEof}
use Rattle.schema_syntax_errors.specs.declared.parse_error.ParseError.TheVariants.{UnrecognizedToken, ExtraToken, User}
use Rattle.schema_syntax_errors.specs.FaultHelps.{missing_applies_to, trailing_namespace_semicolon, misses_applies_to}
use Rattle.schema_syntax_errors.specs.FaultHelps.{ends_namespace, parse_error_help}

abbrev Plain : Option (List ℕ) → Type 0
Plain help = MatchOption help ⊤ (λ text. chars text ≡ text)

plain_rules : (misses ends : Bool)
    → Plain (cond misses (Some missing_applies_to) (cond ends (Some trailing_namespace_semicolon) None))
plain_rules true ends = chars-from_test missing_applies_to refl
plain_rules false true = chars-from_test trailing_namespace_semicolon refl
plain_rules false false = tt

plain_fault : (fault : ParseError) (source : List ℕ) → Plain (parse_error_help fault source)
plain_fault (InvalidToken location) source = tt
plain_fault (UnrecognizedEof location expected) source = tt
plain_fault (UnrecognizedToken start token end expected) source =
    plain_rules (misses_applies_to token expected) (ends_namespace start token expected source)
plain_fault (ExtraToken start token end) source = tt
plain_fault (User fault) source = tt

pub advice_characters : (fault : ParseError) (source help : List ℕ) → Some help ≡ parse_error_help fault source
    → chars help ≡ help
advice_characters fault source help e = subst Plain (sym e) (plain_fault fault source)
