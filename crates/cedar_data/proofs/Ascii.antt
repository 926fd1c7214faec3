-- ASCII texts: their characters are their bytes.
use Rattle.std.proofs.Common.{◌≡◌, ℕ, ◌<◌, true, List, [], ◌∷◌, arith}
use Rattle.std.specs.List.{list_all}
use Rattle.std.specs.Char.{is_ascii}
use Rattle.std.specs.Str.{IsAscii, chars, encode_utf8_all}
use Rattle.std.specs.Cmp.{first_so, second_so}
use Rattle.std.proofs.lemmas.Str.{chars-IsAscii, encodes-IsAscii}
use Rattle.std.proofs.lemmas.Str.Ascii.{IsAscii-nil, IsAscii-cons}
use Rattle.std.proofs.lemmas.Bool.Decides.{nat_tests}
use Rattle.cedar_data.specs.Words.{is_word_start, is_word_part, is_word}

-- a test for it
pub IsAscii-from_test : (bs : List ℕ) → list_all is_ascii bs ≡ true → IsAscii bs
IsAscii-from_test [] h = IsAscii-nil
IsAscii-from_test (b ∷ bs) h =
    let low : is_ascii b ≡ true = first_so (is_ascii b) (list_all is_ascii bs) h in
    IsAscii-cons b bs (grind (arith, nat_tests))
    (IsAscii-from_test bs (second_so (is_ascii b) (list_all is_ascii bs) h))

pub chars-from_test : (bs : List ℕ) → list_all is_ascii bs ≡ true → chars bs ≡ bs
chars-from_test bs h = chars-IsAscii bs (IsAscii-from_test bs h)

pub encodes-from_test : (cs : List ℕ) → list_all is_ascii cs ≡ true → encode_utf8_all cs ≡ cs
encodes-from_test cs h = encodes-IsAscii cs (IsAscii-from_test cs h)

-- words are ASCII
pub part_ascii : (b : ℕ) → is_word_part b ≡ true → b < 128
part_ascii b h = grind (arith, nat_tests)

pub start_part : (b : ℕ) → is_word_start b ≡ true → is_word_part b ≡ true
start_part b h = grind (arith, nat_tests)

pub start_ascii : (b : ℕ) → is_word_start b ≡ true → b < 128
start_ascii b h = part_ascii b (start_part b h)

pub parts_ascii : (bs : List ℕ) → list_all is_word_part bs ≡ true → IsAscii bs
parts_ascii [] h = IsAscii-nil
parts_ascii (b ∷ bs) h = IsAscii-cons b bs (part_ascii b (first_so (is_word_part b) (list_all is_word_part bs) h))
    (parts_ascii bs (second_so (is_word_part b) (list_all is_word_part bs) h))

pub word_ascii : (w : List ℕ) → is_word w ≡ true → IsAscii w
word_ascii [] h = IsAscii-nil
word_ascii (b ∷ bs) h =
    IsAscii-cons b bs (start_ascii b (first_so (is_word_start b) (list_all is_word_part bs) h))
    (parts_ascii bs (second_so (is_word_start b) (list_all is_word_part bs) h))

-- their bytes are their characters
pub word_bytes : (w : List ℕ) → is_word w ≡ true → encode_utf8_all w ≡ w
word_bytes w h = encodes-IsAscii w (word_ascii w h)
