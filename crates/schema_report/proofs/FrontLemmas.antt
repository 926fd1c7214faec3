-- Fronts of texts, counted in characters.
use Rattle.std.proofs.Common.{◌≡◌, ℕ, ◌+◌, ◌-◌, ◌≤◌, List, [], ◌∷◌, ◌++◌, length, take, drop, refl, sym, ap, ◌∙◌, arith}
use Rattle.std.proofs.Common.{append_assoc, subst}
use Rattle.std.proofs.lemmas.List.{append-nil, append_cancel_left, append_cancel_right, length_push, length-append}
use Rattle.std.proofs.lemmas.List.{take-append-drop, take_all, take_at, drop_at}
use Rattle.std.proofs.lemmas.Str.{chars-nil, chars-append, encodes-append, IsCharBoundary-at_seam, IsUtf8-take}
use Rattle.std.specs.Char.{encode_utf8}
use Rattle.std.specs.Str.{chars, IsUtf8, IsCharBoundary, encode_utf8_all}
use Rattle.schema_report.specs.FirstChar.{IsFirstChar, IsPast}

-- past so many characters, of which there are so many
pub record Passed (text : List ℕ) (count : ℕ) (rest : List ℕ) : Type 0 where
  pub front : List ℕ
  pub cut : text ≡ encode_utf8_all front ++ rest
  pub characters : chars text ≡ front ++ chars rest
  pub counted : length front ≡ count
  pub utf8 : IsUtf8 rest

pub pass_none : (text : List ℕ) → IsUtf8 text → Passed text 0 text
pass_none text u = record { front = []; cut = refl; characters = refl; counted = refl; utf8 = u }

one_more : (front : List ℕ) (c : ℕ) → encode_utf8_all (front ++ c ∷ []) ≡ encode_utf8_all front ++ encode_utf8 c
one_more front c = encodes-append front (c ∷ [])
    ∙ ap (λ xs. encode_utf8_all front ++ xs) (append-nil (encode_utf8 c))

pub pass_one : (text : List ℕ) (count : ℕ) (rest after : List ℕ) (c : ℕ) → Passed text count rest
    → IsFirstChar rest c after → Passed text (count + 1) after
pass_one text count rest after c p h =
    let front = p.front in
    let len : length front ≡ count = p.counted in
    record {
      front = front ++ c ∷ [];
      cut = p.cut ∙ ap (λ xs. encode_utf8_all front ++ xs) h.bytes
          ∙ sym (append_assoc (encode_utf8_all front) (encode_utf8 c) after)
          ∙ ap (λ xs. xs ++ after) (sym (one_more front c));
      characters = p.characters ∙ ap (λ xs. front ++ xs) h.characters ∙ sym (append_assoc front (c ∷ []) (chars
          after));
      counted = length_push front c ∙ omega arith;
      utf8 = h.utf8;
    }

-- all of them
pub passed_all : (text : List ℕ) (count : ℕ) (rest : List ℕ) → Passed text count rest → IsPast text count rest
passed_all text count rest p = record {
  front = p.front;
  cut = p.cut;
  characters = p.characters;
  counted = sym (ap (take count) p.characters ∙ take_at p.front (chars rest) count p.counted);
  utf8 = p.utf8;
}

-- the text has fewer
pub passed_out : (text : List ℕ) (count more : ℕ) (rest : List ℕ) → Passed text count rest → count ≤ more → rest ≡ []
    → IsPast text more rest
passed_out text count more rest p few none =
    let whole : chars text ≡ p.front = p.characters ∙ ap (λ xs. p.front ++ chars xs) none
    ∙ ap (λ xs. p.front ++ xs) chars-nil ∙ append-nil p.front in
    let len : length p.front ≡ count = p.counted in
    record {
      front = p.front;
      cut = p.cut;
      characters = p.characters;
      counted = sym (ap (take more) whole ∙ take_all more p.front (omega arith));
      utf8 = p.utf8;
    }

pub past_rest : (text : List ℕ) (count : ℕ) (rest : List ℕ) → IsPast text count rest
    → chars rest ≡ drop count (chars text)
past_rest text count rest p = append_cancel_left (take count (chars text)) (chars rest) (drop count (chars text))
    (ap (λ xs. xs ++ chars rest) (sym p.counted) ∙ sym p.characters ∙ sym (take-append-drop count (chars text)))

-- where the rest begins
pub seam : (text : List ℕ) (count : ℕ) (rest : List ℕ) (p : IsPast text count rest)
    → length (encode_utf8_all p.front) ≡ length text - length rest
seam text count rest p =
    let len : length text ≡ length (encode_utf8_all p.front) + length rest =
    ap length p.cut ∙ length-append (encode_utf8_all p.front) rest in
    omega arith

pub seam_boundary : (text : List ℕ) (count : ℕ) (rest : List ℕ) → IsPast text count rest
    → IsCharBoundary text (length text - length rest)
seam_boundary text count rest p = subst (IsCharBoundary text) (seam text count rest p)
    (IsCharBoundary-at_seam text (encode_utf8_all p.front) rest p.cut p.utf8)

pub front_chars_are : (text : List ℕ) (count : ℕ) (rest : List ℕ) → IsUtf8 text → IsPast text count rest
    → chars (take (length text - length rest) text) ≡ take count (chars text)
front_chars_are text count rest u p =
    let n : ℕ = length (encode_utf8_all p.front) in
    let boundary : IsCharBoundary text n = IsCharBoundary-at_seam text (encode_utf8_all p.front) rest p.cut p.utf8 in
    let back : drop n text ≡ rest = ap (drop n) p.cut ∙ drop_at (encode_utf8_all p.front) rest n refl in
    let parts : chars text ≡ chars (take n text) ++ chars (drop n text) =
    ap chars (sym (take-append-drop n text))
    ∙ chars-append (take n text) (drop n text) (IsUtf8-take text n u boundary) in
    let same : chars (take n text) ≡ p.front = append_cancel_right (chars (take n text)) p.front (chars rest)
    (ap (λ xs. chars (take n text) ++ chars xs) (sym back) ∙ sym parts ∙ p.characters) in
    ap (λ k. chars (take k text)) (sym (seam text count rest p)) ∙ same ∙ p.counted
