use Rattle.std.proofs.Common.{◌≡◌, ◌≢◌, ◌<◌, ◌≤◌, ◌^◌, ℕ, List, length, get_or, sym, subst, arith, Result, Ok, Err, MatchOption}
use Rattle.std.specs.Result.{result_ok}
use Rattle.std.specs.Str.Parse.{AllDigits, digits_value, ParsesUnsigned}
use Rattle.std.proofs.lemmas.Str.Parse.{IsNumeralModel, numerals_by_value, tells_digits, parse_plain, digits_value_short}
use Rattle.std.proofs.lemmas.Str.Pattern.{starts_char}
use Rattle.schema_assist.specs.Words.{IsPlaceWord}
use Rattle.schema_assist.proofs.words.place_of.Goals as goal

own : IsNumeralModel (AllDigits 10) (digits_value 10)
own = numerals_by_value (AllDigits 10) tells_digits

-- what is read of a word of few bytes that does not begin with a plus
read : {E : Type 0} (word : List ℕ) (r : Result ℕ E) → ParsesUnsigned 64 10 word r → get_or word 0 0 ≢ 43
    → length word ≤ 8 → MatchOption (result_ok r) ((place : ℕ) → IsPlaceWord word place → ⊥) (IsPlaceWord word)
read {E} word (Ok n) h plain few =
    let p = parse_plain own {E = E} 64 word (Ok n) h plain in
    record { digits = (p.0.1, p.0.0); few = few; value = p.1 }
read {E} word (Err e) h plain few = λ place is.
    let small = digits_value_short own word 8 is.digits.1 few in
    parse_plain own {E = E} 64 word (Err e) h plain (is.digits.1, is.digits.0, omega arith)

pub returns : goal.returns
returns c =
    let word = c.args.word.now in
    let plus = starts_char 43 word c.starts_with.result c.starts_with.ensures.cases (omega arith) (omega arith) in
    let plain : get_or word 0 0 ≢ 43 = λ e. let yes = plus.1 e in cc in
    subst (λ o. MatchOption o ((place : ℕ) → IsPlaceWord word place → ⊥) (IsPlaceWord word)) (sym c.ok.ensures.value)
    (read word c.parse.result c.parse.ensures.value.0 plain c.if-word-gt-MOST_DIGITS.false)
