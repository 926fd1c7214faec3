-- Line feeds in bytes.
use Rattle.std.proofs.Common.{◌≡◌, ℕ, ◌+◌, ◌-◌, ◌<◌, ◌≤◌, Bool, true, false, not, cond, List, [], ◌∷◌, ◌++◌}
use Rattle.std.proofs.Common.{length, take, get_or}
use Rattle.std.proofs.Common.{refl, sym, ap, ◌∙◌, subst, arith, ⊎_elim, append_assoc}
use Rattle.std.proofs.lemmas.Bool.{cases_lt, lt-ltb}
use Rattle.std.proofs.lemmas.Bool.Decides.{nat_tests}
use Rattle.std.proofs.lemmas.List.{take_more, take-take}
use Rattle.std.proofs.lemmas.List.Sums.{sum_by-cons, sum_by-append, sum_by-take-le, get_or-le-sum_by, take_while-cons}
use Rattle.std.specs.List.{take_while}
use Rattle.schema_report.specs.Lines.{is_no_feed}
use Rattle.schema_report.specs.Places.{is_feed, feeds, since_feed}

-- one for a line feed
abbrev pub feed_count : ℕ → ℕ
feed_count b = cond (is_feed b) 1 0

pub feeds-append : (xs ys : List ℕ) → feeds (xs ++ ys) ≡ feeds xs + feeds ys
feeds-append xs ys = sum_by-append feed_count xs ys

pub feeds-feed : (ys : List ℕ) → feeds (10 ∷ ys) ≡ 1 + feeds ys
feeds-feed ys = sum_by-cons feed_count 10 ys

pub feeds-take-le : (xs : List ℕ) (i j : ℕ) → i ≤ j → feeds (take i xs) ≤ feeds (take j xs)
feeds-take-le xs i j h =
    let whole : feeds (take i (take j xs)) ≤ feeds (take j xs) = sum_by-take-le feed_count (take j xs) i in
    let cut : feeds (take i (take j xs)) ≡ feeds (take i xs) = ap feeds (take-take i j xs h) in
    omega arith

pub feeds-take-all : (xs : List ℕ) (i : ℕ) → feeds (take i xs) ≤ feeds xs
feeds-take-all xs i = sum_by-take-le feed_count xs i

-- what ends with a line feed
pub cut_behind : (xs : List ℕ) (n : ℕ) → n < length xs → get_or xs n 0 ≡ 10 → take (n + 1) xs ≡ take n xs ++ 10 ∷ []
cut_behind xs n l e = take_more xs n 0 l ∙ ap (λ b. take n xs ++ b ∷ []) e

pub feeds_behind : (xs : List ℕ) (n : ℕ) → n < length xs → get_or xs n 0 ≡ 10
    → feeds (take (n + 1) xs) ≡ feeds (take n xs) + 1
feeds_behind xs n l e =
    ap feeds (cut_behind xs n l e) ∙ feeds-append (take n xs) (10 ∷ [])
    ∙ ap (λ k. feeds (take n xs) + k) (feeds-feed [])

since_none : (ys : List ℕ) → feeds ys ≡ 0 → since_feed ys ≡ ys
since_none [] e = refl
since_none (y ∷ ys) e = rw e refl

has_feed : (front ys : List ℕ) → 0 < feeds (front ++ 10 ∷ ys)
has_feed front ys = omega (arith, feeds-append front (10 ∷ ys), feeds-feed ys)

since_behind : (front ys : List ℕ) → feeds ys ≡ 0 → since_feed (front ++ 10 ∷ ys) ≡ ys
since_behind [] ys e = rw (lt-ltb 0 (feeds (10 ∷ ys)) (has_feed [] ys)) (since_none ys e)
since_behind (x ∷ xs) ys e =
    rw (lt-ltb 0 (feeds (x ∷ (xs ++ 10 ∷ ys))) (has_feed (x ∷ xs) ys)) (since_behind xs ys e)

-- what follows the start of a line, up to the next line feed
pub since_start : (xs : List ℕ) (start : ℕ) (ys : List ℕ) → start ≤ length xs
    → (0 < start → get_or xs (start - 1) 0 ≡ 10) → feeds ys ≡ 0 → since_feed (take start xs ++ ys) ≡ ys
since_start xs start ys within behind none = ⊎_elim
    (λ (some : 0 < start).
    let step : start - 1 + 1 ≡ start = omega arith in
    let cut : take start xs ≡ take (start - 1) xs ++ 10 ∷ [] =
    ap (λ n. take n xs) (sym step) ∙ cut_behind xs (start - 1) (omega arith) (behind some) in
    ap (λ front. since_feed (front ++ ys)) cut
    ∙ ap since_feed (append_assoc (take (start - 1) xs) (10 ∷ []) ys)
    ∙ since_behind (take (start - 1) xs) ys none)
    (λ (first : start ≤ 0).
    let zero_start : start ≡ 0 = omega arith in
    ap (λ n. since_feed (take n xs ++ ys)) zero_start ∙ since_none ys none)
    (cases_lt 0 start)

in_line_test : (b : Bool) → cond b 1 0 ≤ 0 → not b ≡ true
in_line_test true h = absurd (omega arith)
in_line_test false h = refl

-- bytes without a line feed
pub in_line_at : (xs : List ℕ) (k : ℕ) → feeds xs ≡ 0 → k < length xs → is_no_feed (get_or xs k 0) ≡ true
in_line_at xs k none l =
    let few : feed_count (get_or xs k 0) ≤ feeds xs = get_or-le-sum_by feed_count xs k 0 l in
    in_line_test (is_feed (get_or xs k 0)) (omega arith)

-- a line feed counts
pub feed_counts : (xs : List ℕ) (k : ℕ) → k < length xs → get_or xs k 0 ≡ 10 → 1 ≤ feeds xs
feed_counts xs k l e = subst (λ (b : ℕ). feed_count b ≤ feeds xs) e (get_or-le-sum_by feed_count xs k 0 l)

pub feed_from_test : (b : ℕ) → is_no_feed b ≡ false → b ≡ 10
feed_from_test b h = grind (arith, nat_tests)

no_feed_cons : (x : ℕ) (rest : List ℕ) → feeds rest ≡ 0 → (v : Bool) → is_feed x ≡ v
    → feeds (cond (not v) (x ∷ rest) []) ≡ 0
no_feed_cons x rest none true e = refl
no_feed_cons x rest none false e = sum_by-cons feed_count x rest ∙ rw (e, none) refl

-- a line has no line feed
pub line_has_no_feed : (xs : List ℕ) → feeds (take_while is_no_feed xs) ≡ 0
line_has_no_feed [] = refl
line_has_no_feed (x ∷ xs) = ap feeds (take_while-cons is_no_feed x xs)
    ∙ no_feed_cons x (take_while is_no_feed xs) (line_has_no_feed xs) (is_feed x) refl
