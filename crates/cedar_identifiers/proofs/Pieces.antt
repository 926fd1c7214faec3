-- Pieces at the front of a text.
use Rattle.std.proofs.Common.{◌≡◌, ℕ, zero, suc, ◌+◌, ◌-◌, ◌<◌, ◌≤◌, Bool, true, false, cond, List, [], ◌∷◌, length}
use Rattle.std.proofs.Common.{take, drop, get_or, refl, sym, subst, arith, codes, nat_lt, ◌==◌, ◌||◌}
use Rattle.std.specs.List.{prefix_len, list_any, list_all}
use Rattle.std.specs.Str.{IsUtf8, IsCharBoundary, IsAscii, chars}
use Rattle.std.specs.Char.{is_ascii_digit}
use Rattle.std.proofs.lemmas.List.Sums.{prefix_len-le-length, prefix_len_passes}
use Rattle.std.proofs.lemmas.Str.{IsCharBoundary-after_ascii, chars-IsAscii}
use Rattle.std.proofs.lemmas.Bool.Decides.{nat_tests}
use Rattle.std.specs.Cmp.{first_so, second_so}
use Rattle.std.proofs.lemmas.Str.Ascii.{IsAscii-nil, IsAscii-cons}
use Rattle.cedar_data.specs.Words.{is_word_start, is_word_part}
use Rattle.cedar_data.proofs.Ascii.{part_ascii}
use Rattle.cedar_identifiers.specs.NamePieces.{starts_twice, is_mark, blank_len, piece_len, BeginsWith, here, piece}
use Rattle.cedar_identifiers.proofs.Blanks.{Begins-append}

digit_ascii : (b : ℕ) → is_ascii_digit b ≡ true → b < 128
digit_ascii b h = grind (arith, nat_tests)

-- one of ASCII bytes is ASCII
any_ascii : (ms : List ℕ) (b : ℕ) → list_all (λ m. nat_lt m 128) ms ≡ true → list_any (λ m. m == b) ms ≡ true
    → b < 128
any_ascii [] b h k = cc
any_ascii (m ∷ ms) b h k =
    let rest = any_ascii ms b (second_so (nat_lt m 128) (list_all (λ n. nat_lt n 128) ms) h) in
    by_test (m == b) refl k rest
  where
    by_test : (t : Bool) → (m == b) ≡ t → (t || list_any (λ n. n == b) ms) ≡ true
        → (list_any (λ n. n == b) ms ≡ true → b < 128) → b < 128
    by_test true e l rest = let low : nat_lt m 128
        ≡ true = first_so (nat_lt m 128) (list_all (λ n. nat_lt n 128) ms) h in grind (arith, nat_tests)
    by_test false e l rest = rest l

mark_ascii : (b : ℕ) → is_mark b ≡ true → b < 128
mark_ascii b h = any_ascii (codes "!&()*+,-./:;<=>?@[]{|}") b refl h

twice_ascii : (b : ℕ) (bs : List ℕ) (k : ℕ) → starts_twice 58 (b ∷ bs) ≡ true → k < 2 → get_or (b ∷ bs) k 0 < 128
twice_ascii b [] k h l = cc
twice_ascii b (c ∷ bs) zero h l = grind (arith, nat_tests)
twice_ascii b (c ∷ bs) (suc zero) h l = grind (arith, nat_tests)
twice_ascii b (c ∷ bs) (suc (suc k)) h l = absurd (omega (arith, l))

-- the length of the piece, by what begins there
abbrev len_by : Bool → Bool → Bool → Bool → List ℕ → ℕ
len_by w d t m bs = cond w (prefix_len is_word_part bs) (cond d (prefix_len is_ascii_digit bs) (cond t 2 (cond m 1 0)))

-- the bytes of a piece are ASCII
piece_byte : (text : List ℕ) (k : ℕ) → k < piece_len text → get_or text k 0 < 128
piece_byte [] k h = absurd (omega (arith, h))
piece_byte (b ∷ bs) k h = by_start (is_word_start b) (is_ascii_digit b) (starts_twice 58 (b ∷ bs))
    (is_mark b) refl refl h
  where
    by_start : (w d t m : Bool) → starts_twice 58 (b ∷ bs) ≡ t → is_mark b ≡ m → k < len_by w d t m (b ∷ bs)
        → get_or (b ∷ bs) k 0 < 128
    by_start true d t m e f g = part_ascii _ (prefix_len_passes is_word_part (b ∷ bs) k 0 g)
    by_start false true t m e f g = digit_ascii _ (prefix_len_passes is_ascii_digit (b ∷ bs) k 0 g)
    by_start false false true m e f g = twice_ascii b bs k e g
    by_start false false false true e f g = let none : k ≡ 0 = omega (arith, g) in rw none (mark_ascii b f)
    by_start false false false false e f g = absurd (omega (arith, g))

-- a piece is in the text
pub piece_len-le : (text : List ℕ) → piece_len text ≤ length text
piece_len-le [] = omega arith
piece_len-le (b ∷ bs) = by_start (is_word_start b) (is_ascii_digit b) (starts_twice 58 (b ∷ bs)) (is_mark b) refl
  where
    twice : (cs : List ℕ) → starts_twice 58 (b ∷ cs) ≡ true → 2 ≤ length (b ∷ cs)
    twice [] e = cc
    twice (c ∷ cs) e = omega arith

    by_start : (w d t m : Bool) → starts_twice 58 (b ∷ bs) ≡ t → len_by w d t m (b ∷ bs) ≤ length (b ∷ bs)
    by_start true d t m e = prefix_len-le-length is_word_part (b ∷ bs)
    by_start false true t m e = prefix_len-le-length is_ascii_digit (b ∷ bs)
    by_start false false true m e = twice bs e
    by_start false false false true e = omega arith
    by_start false false false false e = omega arith

-- the text may be cut behind its piece
pub piece_len-boundary : (text : List ℕ) → IsUtf8 text → 0 < piece_len text → IsCharBoundary text (piece_len text)
piece_len-boundary text u h =
    let l = piece_len-le text in
    let e : piece_len text - 1 + 1 ≡ piece_len text = omega (arith, h) in
    subst (IsCharBoundary text) e (IsCharBoundary-after_ascii text (piece_len text - 1) u (omega (arith, h, l))
    (piece_byte text (piece_len text - 1) (omega (arith, h))))

-- a front of ASCII bytes is ASCII
front_ascii : (n : ℕ) (bs : List ℕ) → ((k : ℕ) → k < n → get_or bs k 0 < 128) → IsAscii (take n bs)
front_ascii zero bs f = IsAscii-nil
front_ascii (suc n) [] f = IsAscii-nil
front_ascii (suc n) (b ∷ bs) f =
    IsAscii-cons b (take n bs) (f 0 (omega arith)) (front_ascii n bs (λ k h. f (suc k) (omega (arith, h))))

-- a piece has its bytes as characters
pub piece_chars : (text : List ℕ) → chars (take (piece_len text) text) ≡ take (piece_len text) text
piece_chars text = chars-IsAscii _ (front_ascii (piece_len text) text (piece_byte text))

-- the piece at the front begins the text
pub begins-piece : (text rest p after : List ℕ) → BeginsWith text [] rest → blank_len rest ≡ 0 → 0 < piece_len rest
    → p ≡ take (piece_len rest) rest → after ≡ drop (piece_len rest) rest → BeginsWith text (p ∷ []) after
begins-piece text rest p after b no_blank some e f =
    subst (λ (x : List ℕ). BeginsWith text (p ∷ []) x) (sym f)
    (subst (λ (x : List ℕ). BeginsWith text (x ∷ []) (drop (piece_len rest) rest)) (sym e)
    (Begins-append b (piece no_blank some here)))
