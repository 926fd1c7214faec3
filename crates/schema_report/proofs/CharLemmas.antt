-- How many units and bytes characters take.
use Rattle.std.proofs.Common.{◌≡◌, ℕ, ◌+◌, ◌<◌, ◌≤◌, List, [], ◌∷◌, ◌++◌, length, refl, ap, ◌∙◌, arith}
use Rattle.std.proofs.Common.{⊎_elim}
use Rattle.std.proofs.lemmas.Bool.{cases_lt, lt-ltb, le-ltb}
use Rattle.std.proofs.lemmas.List.{length-append}
use Rattle.std.proofs.lemmas.List.Sums.{sum_by-cons, sum_by-append}
use Rattle.std.proofs.lemmas.Str.{length-encode, len_utf8_bounds, IsUtf8-past_char, chars_past_char}
use Rattle.std.specs.Char.{encode_utf8, len_utf8}
use Rattle.std.specs.List.{sum_by}
use Rattle.std.specs.Str.{chars, IsUtf8}
use Rattle.schema_report.specs.declared.place.Units.{Units}
use Rattle.schema_report.specs.declared.place.Units.TheVariants.{Characters, Utf16}
use Rattle.schema_report.specs.FirstChar.{IsFirstChar}
use Rattle.schema_report.specs.Places.{unit_len, utf16_len}

pub is_first_char : (text rest : List ℕ) (c : ℕ) → IsUtf8 text → text ≡ encode_utf8 c ++ rest
    → IsFirstChar text c rest
is_first_char text rest c u e = record {
  bytes = e;
  characters = chars_past_char text rest c u e;
  utf8 = IsUtf8-past_char text rest c u e;
}

low_units : (c : ℕ) → c < 0x1_0000 → utf16_len c ≡ 1
low_units c h = rw (lt-ltb c 0x1_0000 h) refl

high_units : (c : ℕ) → 0x1_0000 ≤ c → utf16_len c ≡ 2
high_units c h = rw (le-ltb c 0x1_0000 h) refl

high_bytes : (c : ℕ) → 0x1_0000 ≤ c → len_utf8 c ≡ 4
high_bytes c h = rw (le-ltb c 0x80 (omega arith), le-ltb c 0x800 (omega arith), le-ltb c 0x1_0000 h) refl

utf16_bounds : (c : ℕ) → (1 ≤ utf16_len c) × (utf16_len c ≤ length (encode_utf8 c))
utf16_bounds c = ⊎_elim
    (λ (low : c < 0x1_0000). let e = low_units c low in let l = length-encode c in let b = len_utf8_bounds c in
    let some : 1 ≤ utf16_len c = omega arith in let few : utf16_len c ≤ length (encode_utf8 c) = omega arith in
    (some, few))
    (λ (high : 0x1_0000 ≤ c). let e = high_units c high in let l = length-encode c in let b = high_bytes c high in
    let some : 1 ≤ utf16_len c = omega arith in let few : utf16_len c ≤ length (encode_utf8 c) = omega arith in
    (some, few))
    (cases_lt c 0x1_0000)

-- a character takes a unit, and no more units than bytes
pub unit_len_bounds : (units : Units) (c : ℕ) → (1 ≤ unit_len units c) × (unit_len units c ≤ length (encode_utf8 c))
unit_len_bounds Characters c = (omega arith, omega (arith, length-encode c, len_utf8_bounds c))
unit_len_bounds Utf16 c = utf16_bounds c

-- a step of a sum over the characters of a text
pub units_step : (units : Units) (text rest : List ℕ) (c : ℕ) → IsFirstChar text c rest
    → sum_by (unit_len units) (chars text) ≡ unit_len units c + sum_by (unit_len units) (chars rest)
units_step units text rest c h =
    ap (sum_by (unit_len units)) h.characters ∙ sum_by-cons (unit_len units) c (chars rest)

pub bytes_step : (text rest : List ℕ) (c : ℕ) → IsFirstChar text c rest
    → length text ≡ length (encode_utf8 c) + length rest
bytes_step text rest c h = ap length h.bytes ∙ length-append (encode_utf8 c) rest

pub shorter : (text rest : List ℕ) (c : ℕ) → IsFirstChar text c rest → length rest < length text
shorter text rest c h = omega (arith, bytes_step text rest c h, length-encode c, len_utf8_bounds c)

-- a column in characters is their number
pub ones : (xs : List ℕ) → sum_by (unit_len Characters) xs ≡ length xs
ones [] = refl
ones (x ∷ xs) = sum_by-cons (unit_len Characters) x xs ∙ omega (arith, ones xs)

-- two fronts of one list with equal sums are equal
pub same_front : (u : ℕ → ℕ) → ((c : ℕ) → 1 ≤ u c) → (xs ys fs gs : List ℕ) → xs ++ ys ≡ fs ++ gs
    → sum_by u xs ≡ sum_by u fs → xs ≡ fs
same_front u pos [] ys [] gs e s = refl
same_front u pos [] ys (f ∷ fs) gs e s = absurd (omega (arith, pos f, sum_by-cons u f fs))
same_front u pos (x ∷ xs) ys [] gs e s = absurd (omega (arith, pos x, sum_by-cons u x xs))
same_front u pos (x ∷ xs) ys (f ∷ fs) gs e s =
    let first : x ≡ f = cc in
    let tails : xs ++ ys ≡ fs ++ gs = cc in
    let lens : u x ≡ u f = ap u first in
    let sums : sum_by u xs ≡ sum_by u fs = omega (arith, sum_by-cons u x xs, sum_by-cons u f fs) in
    let rest = same_front u pos xs ys fs gs tails sums in
    λ i. first i ∷ rest i

-- no front ends inside a character
pub no_front_inside : (u : ℕ → ℕ) (xs : List ℕ) (c : ℕ) (ys fs gs : List ℕ) → xs ++ c ∷ ys ≡ fs ++ gs
    → sum_by u xs < sum_by u fs → sum_by u fs < sum_by u xs + u c → ⊥
no_front_inside u [] c ys [] gs e above below = omega arith
no_front_inside u [] c ys (f ∷ fs) gs e above below =
    let first : c ≡ f = cc in
    let lens : u c ≡ u f = ap u first in
    omega (arith, sum_by-cons u f fs)
no_front_inside u (x ∷ xs) c ys [] gs e above below = omega arith
no_front_inside u (x ∷ xs) c ys (f ∷ fs) gs e above below =
    let first : x ≡ f = cc in
    let tails : xs ++ c ∷ ys ≡ fs ++ gs = cc in
    let lens : u x ≡ u f = ap u first in
    no_front_inside u xs c ys fs gs tails
    (omega (arith, sum_by-cons u x xs, sum_by-cons u f fs)) (omega (arith, sum_by-cons u x xs, sum_by-cons u f fs))

-- no front has more units than the whole
pub no_front_past : (u : ℕ → ℕ) (xs fs gs : List ℕ) → xs ≡ fs ++ gs → sum_by u xs < sum_by u fs → ⊥
no_front_past u xs fs gs e h = omega (arith, ap (sum_by u) e, sum_by-append u fs gs)
