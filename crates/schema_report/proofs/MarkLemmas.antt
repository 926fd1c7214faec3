-- How many units stand before some bytes of a text.
use Rattle.std.proofs.Common.{◌≡◌, ℕ, ◌+◌, ◌-◌, ◌<◌, ◌≤◌, true, List, [], ◌∷◌, ◌++◌, length, take, get_or, refl, ap, sym, ◌∙◌}
use Rattle.std.proofs.Common.{subst, arith, ⊎_elim}
use Rattle.std.proofs.lemmas.Bool.{cases_lt, lt-ltb, ltb-true}
use Rattle.std.proofs.lemmas.List.{get_or_append_left, get_or_push, length_push, length-append, length-take-le}
use Rattle.std.proofs.lemmas.List.Sums.{sum_by-append, sum_by-cons}
use Rattle.std.proofs.lemmas.Str.{chars-append, chars-nil, chars-IsAscii, encodes-chars, IsUtf8-take}
use Rattle.std.proofs.lemmas.Str.{IsCharBoundary-start}
use Rattle.std.specs.Char.{encode_utf8, is_ascii}
use Rattle.std.specs.Cmp.{first_so, second_so}
use Rattle.std.specs.List.{between, list_all, sum_by}
use Rattle.std.specs.Str.{chars, IsUtf8, IsCharBoundary, encode_utf8_all}
use Rattle.cedar_data.proofs.Ascii.{IsAscii-from_test}
use Rattle.schema_report.specs.declared.place.Units.{Units}
use Rattle.schema_report.specs.declared.place.Units.TheVariants.{Characters, Utf16}
use Rattle.schema_report.specs.Lines.{IsLineStart, AreLineStarts}
use Rattle.schema_report.specs.Marks.{IsMark, AreMarks}
use Rattle.schema_report.specs.Places.{feeds, unit_len}
use Rattle.schema_report.proofs.CharLemmas.{unit_len_bounds}
use Rattle.schema_report.proofs.FeedLemmas.{feeds_behind}
use Rattle.schema_report.proofs.LineLemmas.{cut_at}

-- the units before a byte: those before an earlier one, and those between both
pub cut_units : (units : Units) (text : List ℕ) (start end : ℕ) → IsUtf8 text → IsCharBoundary text start → start ≤ end
    → sum_by (unit_len units) (chars (take end text))
    ≡ sum_by (unit_len units) (chars (take start text)) + sum_by (unit_len units) (chars (between start end text))
cut_units units text start end u b order =
    let front = take start text in
    let back = between start end text in
    ap (λ t. sum_by (unit_len units) (chars t)) (cut_at text start end order)
    ∙ ap (sum_by (unit_len units)) (chars-append front back (IsUtf8-take text start u b))
    ∙ sum_by-append (unit_len units) (chars front) (chars back)

encoded_few : (units : Units) (cs : List ℕ) → sum_by (unit_len units) cs ≤ length (encode_utf8_all cs)
encoded_few units [] = omega arith
encoded_few units (c ∷ cs) =
    let one = unit_len_bounds units c in
    let rest = encoded_few units cs in
    let len : length (encode_utf8_all (c ∷ cs)) ≡ length (encode_utf8 c) + length (encode_utf8_all cs) =
    length-append (encode_utf8 c) (encode_utf8_all cs) in
    omega (arith, sum_by-cons (unit_len units) c cs)

-- no more units than bytes
pub few_units : (units : Units) (text : List ℕ) (byte : ℕ) → IsUtf8 text → IsCharBoundary text byte
    → sum_by (unit_len units) (chars (take byte text)) ≤ length text
few_units units text byte u b =
    let front = take byte text in
    let few = encoded_few units (chars front) in
    let len : length (encode_utf8_all (chars front)) ≡ byte =
    ap length (encodes-chars front (IsUtf8-take text byte u b)) ∙ length-take-le byte text b.0 in
    let within : byte ≤ length text = b.0 in
    omega arith

-- the first line begins with the text
pub first_start : (text starts : List ℕ) → AreLineStarts text starts → get_or starts 0 0 ≡ 0
first_start text starts h =
    let some : 0 < length starts = omega (arith, h.all) in
    let this : IsLineStart text 0 (get_or starts 0 0) = h.each 0 some in
    ⊎_elim
    (λ (later : 0 < get_or starts 0 0).
    let start : ℕ = get_or starts 0 0 in
    let within = this.within in
    let step : start - 1 + 1 ≡ start = omega arith in
    let counted = feeds_behind text (start - 1) (omega arith) (this.behind later) in
    let none : feeds (take (start - 1 + 1) text) ≡ 0 = ap (λ n. feeds (take n text)) step ∙ this.before in
    absurd (omega arith))
    (λ (first : get_or starts 0 0 ≤ 0). omega arith)
    (cases_lt 0 (get_or starts 0 0))

no_units : (units : Units) (text : List ℕ) → 0 ≡ sum_by (unit_len units) (chars (take 0 text))
no_units units text = sym (ap (sum_by (unit_len units)) chars-nil)

pub first_mark : (text : List ℕ) → IsUtf8 text → IsMark text 0 0 0
first_mark text u = record {
  boundary = IsCharBoundary-start text u;
  in_characters = no_units Characters text;
  in_utf16 = no_units Utf16 text;
}

pub first_marks : (text bytes characters utf16 : List ℕ) → IsUtf8 text → bytes ≡ 0 ∷ [] → characters ≡ 0 ∷ []
    → utf16 ≡ 0 ∷ [] → AreMarks text bytes characters utf16
first_marks text bytes characters utf16 u b c d =
    subst (λ bs. AreMarks text bs characters utf16) (sym b)
    (subst (λ cs. AreMarks text (0 ∷ []) cs utf16) (sym c)
    (subst (λ ds. AreMarks text (0 ∷ []) (0 ∷ []) ds) (sym d) (the_first text u)))
  where
    the_first : (text : List ℕ) → IsUtf8 text → AreMarks text (0 ∷ []) (0 ∷ []) (0 ∷ [])
    the_first text u = record {
      some = omega arith;
      first = refl;
      as_characters = refl;
      as_utf16 = refl;
      each = λ at few.
          let none : 0 ≡ at = omega arith in
          subst (λ n. IsMark text (get_or (0 ∷ []) n 0) (get_or (0 ∷ []) n 0) (get_or (0 ∷ []) n 0)) none
          (first_mark text u);
    }

pub more_marks : (text bytes characters utf16 : List ℕ) (b c d : ℕ) → AreMarks text bytes characters utf16
    → IsMark text b c d → AreMarks text (bytes ++ b ∷ []) (characters ++ c ∷ []) (utf16 ++ d ∷ [])
more_marks text bytes characters utf16 b c d m one =
    let cs : length characters ≡ length bytes = m.as_characters in
    let ds : length utf16 ≡ length bytes = m.as_utf16 in
    let some = m.some in
    record {
      some = omega (arith, length_push bytes b);
      first = get_or_append_left bytes (b ∷ []) 0 0 some ∙ m.first;
      as_characters = length_push characters c ∙ omega (arith, length_push bytes b);
      as_utf16 = length_push utf16 d ∙ omega (arith, length_push bytes b);
      each = λ at few. ⊎_elim
          (λ (before : at < length bytes).
          let in_bytes = get_or_append_left bytes (b ∷ []) 0 at before in
          let in_characters = get_or_append_left characters (c ∷ []) 0 at (omega arith) in
          let in_utf16 = get_or_append_left utf16 (d ∷ []) 0 at (omega arith) in
          subst (λ x. IsMark text x (get_or (characters ++ c ∷ []) at 0) (get_or (utf16 ++ d ∷ []) at 0))
          (sym in_bytes)
          (subst (λ x. IsMark text (get_or bytes at 0) x (get_or (utf16 ++ d ∷ []) at 0)) (sym in_characters)
          (subst (λ x. IsMark text (get_or bytes at 0) (get_or characters at 0) x) (sym in_utf16)
          (m.each at before))))
          (λ (last : length bytes ≤ at).
          let len = length_push bytes b in
          let in_bytes : get_or (bytes ++ b ∷ []) at 0 ≡ b = get_or_push bytes b 0 at (omega arith) in
          let in_characters : get_or (characters ++ c ∷ []) at 0 ≡ c = get_or_push characters c 0 at (omega arith) in
          let in_utf16 : get_or (utf16 ++ d ∷ []) at 0 ≡ d = get_or_push utf16 d 0 at (omega arith) in
          subst (λ x. IsMark text x (get_or (characters ++ c ∷ []) at 0) (get_or (utf16 ++ d ∷ []) at 0))
          (sym in_bytes)
          (subst (λ x. IsMark text b x (get_or (utf16 ++ d ∷ []) at 0)) (sym in_characters)
          (subst (λ x. IsMark text b c x) (sym in_utf16) one)))
          (cases_lt at (length bytes));
    }

-- a mark behind another
pub next_mark : (text : List ℕ) (byte next characters utf16 : ℕ) → IsUtf8 text → IsMark text byte characters utf16
    → byte ≤ next → IsCharBoundary text next
    → IsMark text next (characters + sum_by (unit_len Characters) (chars (between byte next text)))
    (utf16 + sum_by (unit_len Utf16) (chars (between byte next text)))
next_mark text byte next characters utf16 u m order b =
    let cs = m.in_characters in
    let ds = m.in_utf16 in
    record {
      boundary = b;
      in_characters = omega (arith, cut_units Characters text byte next u m.boundary order);
      in_utf16 = omega (arith, cut_units Utf16 text byte next u m.boundary order);
    }

low_unit : (units : Units) (b : ℕ) → b < 128 → unit_len units b ≡ 1
low_unit Characters b h = refl
low_unit Utf16 b h = rw (lt-ltb b 0x1_0000 (omega arith)) refl

ascii_sum : (units : Units) (bytes : List ℕ) → list_all is_ascii bytes ≡ true
    → sum_by (unit_len units) bytes ≡ length bytes
ascii_sum units [] h = refl
ascii_sum units (b ∷ bs) h =
    let one = low_unit units b (ltb-true b 128 (first_so (is_ascii b) (list_all is_ascii bs) h)) in
    let rest = ascii_sum units bs (second_so (is_ascii b) (list_all is_ascii bs) h) in
    sum_by-cons (unit_len units) b bs ∙ omega arith

-- a text of ASCII takes a unit a byte
pub ascii_units : (units : Units) (text : List ℕ) → list_all is_ascii text ≡ true
    → sum_by (unit_len units) (chars text) ≡ length text
ascii_units units text h =
    ap (sum_by (unit_len units)) (chars-IsAscii text (IsAscii-from_test text h)) ∙ ascii_sum units text h
