-- Blanks at the front of a text.
use Rattle.std.proofs.Common.{◌≡◌, ℕ, ◌+◌, ◌<◌, Bool, true, false, cond, List, [], ◌∷◌, ◌++◌, length, drop, refl, sym}
use Rattle.std.proofs.Common.{ap, ◌∙◌, subst, arith, length-append, length-drop, ⊎_elim}
use Rattle.std.specs.List.{prefix_len}
use Rattle.std.specs.Str.{IsUtf8, IsCharBoundary, chars, encode_utf8_all}
use Rattle.std.specs.Char.{is_whitespace, encode_utf8}
use Rattle.std.proofs.lemmas.List.{drop_at}
use Rattle.std.proofs.lemmas.List.Sums.{prefix_len-le-length, prefix_len_stops}
use Rattle.std.proofs.lemmas.Str.{encodes-chars, IsUtf8-past_char, chars_past_char, IsCharBoundary-before_ascii}
use Rattle.std.proofs.lemmas.Str.{IsCharBoundary-end, IsUtf8-drop, length-encode, len_utf8_bounds}
use Rattle.std.proofs.lemmas.Bool.{cases_lt}
use Rattle.std.proofs.lemmas.Bool.Decides.{nat_tests}
use Rattle.cedar_identifiers.specs.NamePieces.{space_len, starts_twice, blank_len, BeginsWith, here, blank, piece}
use Rattle.cedar_data.specs.Words.{is_in_line}

-- a character with White_Space at the front is a blank
pub space_from_char : (text rest : List ℕ) (c : ℕ) → IsUtf8 text → text ≡ encode_utf8 c ++ rest
    → is_whitespace c ≡ true
    → (space_len (chars text) ≡ length (encode_utf8 c)) × (0 < space_len (chars text))
    × (rest ≡ drop (space_len (chars text)) text)
space_from_char text rest c u split white =
    let len : space_len (chars text) ≡ length (encode_utf8 c) = ap space_len (chars_past_char text rest c u split)
    ∙ rw white refl in
    let some : 0 < length (encode_utf8 c) = omega (arith, length-encode c, (len_utf8_bounds c).0) in
    (len, rw len some, rw (len, split) (sym (drop_at (encode_utf8 c) rest (length (encode_utf8 c)) refl)))

-- what follows a blank is a text, and shorter
pub record PastBlank (text : List ℕ) (n : ℕ) : Type 0 where
  pub rest : IsUtf8 (drop n text)
  pub shorter : length (drop n text) < length text

past_space : (text : List ℕ) → IsUtf8 text → 0 < space_len (chars text) → PastBlank text (space_len (chars text))
past_space text u h = by_chars (chars text) refl
  where
    by_char : (c : ℕ) (cs : List ℕ) (w : Bool) → chars text ≡ c ∷ cs → is_whitespace c ≡ w
        → PastBlank text (space_len (chars text))
    by_char c cs false e f = let len : space_len (chars text) ≡ 0 = ap space_len e
        ∙ rw f refl in absurd (omega (arith, h, len))
    by_char c cs true e f =
        let split : text ≡ encode_utf8 c ++ encode_utf8_all cs = sym (encodes-chars text u) ∙ ap encode_utf8_all e in
        let k = space_from_char text (encode_utf8_all cs) c u split f in
        let d : length (drop (space_len (chars text)) text) + length (encode_utf8 c) ≡ length text =
        rw (sym k.2) (omega (arith, ap length split, length-append (encode_utf8 c) (encode_utf8_all cs))) in
        record {
          rest = subst IsUtf8 k.2 (IsUtf8-past_char text (encode_utf8_all cs) c u split);
          shorter = omega (arith, h, k.0, d);
        }

    by_chars : (cs : List ℕ) → chars text ≡ cs → PastBlank text (space_len (chars text))
    by_chars [] e = let len : space_len (chars text) ≡ 0 = ap space_len e in absurd (omega (arith, h, len))
    by_chars (c ∷ cs) e = by_char c cs (is_whitespace c) e refl

-- a line ends at an ASCII byte
not_in_line : (b : ℕ) → is_in_line b ≡ false → b < 128
not_in_line b h = grind (arith, nat_tests)

-- a line ends between characters
pub line-boundary : (text : List ℕ) → IsUtf8 text → IsCharBoundary text (prefix_len is_in_line text)
line-boundary text u = ⊎_elim
    (λ h. IsCharBoundary-before_ascii text (prefix_len is_in_line text) h
    (not_in_line _ (prefix_len_stops is_in_line text 0 h)))
    (λ h. let e : prefix_len is_in_line text ≡ length text = omega (arith, h, prefix_len-le-length is_in_line text) in
    subst (IsCharBoundary text) (sym e) (IsCharBoundary-end text))
    (cases_lt (prefix_len is_in_line text) (length text))

-- what follows the blank at the front
pub past-blank : (text : List ℕ) → IsUtf8 text → 0 < blank_len text → PastBlank text (blank_len text)
unfolding blank_len
past-blank text u h = by_test (starts_twice 47 text) h
  where
    by_test : (t : Bool) → 0 < cond t (prefix_len is_in_line text) (space_len (chars text))
        → PastBlank text (cond t (prefix_len is_in_line text) (space_len (chars text)))
    by_test true some = record {
      rest = IsUtf8-drop text (prefix_len is_in_line text) u (line-boundary text u);
      shorter = omega (
        arith,
        some,
        length-drop (prefix_len is_in_line text) text,
        prefix_len-le-length
            is_in_line text,
      );
    }
    by_test false some = past_space text u some

-- what begins behind what begins a text
pub Begins-append : {text here end : List ℕ} {ps qs : List (List ℕ)} → BeginsWith text ps here
    → BeginsWith here qs end → BeginsWith text (ps ++ qs) end
Begins-append here e = e
Begins-append (blank some b) e = blank some (Begins-append b e)
Begins-append (piece no_blank some b) e = piece no_blank some (Begins-append b e)

-- one blank more
pub behind-blank : (text rest after : List ℕ) → 0 < blank_len rest → after ≡ drop (blank_len rest) rest
    → BeginsWith text [] rest → BeginsWith text [] after
behind-blank text rest after some e b = subst (BeginsWith text []) (sym e) (Begins-append b (blank some here))
