-- Lines, and the places in them.
use Rattle.std.proofs.Common.{◌≡◌, ℕ, ◌+◌, ◌-◌, ◌<◌, ◌≤◌, List, [], ◌∷◌, ◌++◌, length, take, drop, get_or}
use Rattle.std.proofs.Common.{refl, sym, ap, ◌∙◌, subst, arith, ⊎_elim, append_assoc}
use Rattle.std.proofs.lemmas.Bool.{cases_lt}
use Rattle.std.proofs.lemmas.List.{append-nil, take-append-drop, take-take, take_at, drop_at, length-take-le}
use Rattle.std.proofs.lemmas.List.{length-drop, get_or-drop, get_or-take, append_cancel_right, length-append}
use Rattle.std.proofs.lemmas.List.Sums.{sum_by_push, prefix_len_is, prefix_len-le-length, prefix_len_stops}
use Rattle.std.proofs.lemmas.Slice.{between_is}
use Rattle.std.proofs.lemmas.Str.{IsCharBoundary-start, IsCharBoundary-end, IsCharBoundary-before_ascii}
use Rattle.std.proofs.lemmas.Str.{IsCharBoundary-after_ascii, IsCharBoundary-at_seam, IsUtf8-take, chars-append}
use Rattle.std.proofs.lemmas.Str.{chars-nil, encodes-chars, encodes-append}
use Rattle.std.specs.List.{sum_by, prefix_len, between}
use Rattle.std.specs.Char.{encode_utf8}
use Rattle.std.specs.Str.{chars, IsUtf8, IsCharBoundary, encode_utf8_all}
use Rattle.schema_report.specs.declared.place.Place.{Place}
use Rattle.schema_report.specs.declared.place.Units.{Units}
use Rattle.schema_report.specs.declared.place.Units.TheVariants.{Characters, Utf16}
use Rattle.schema_report.specs.FirstChar.{IsFirstChar}
use Rattle.schema_report.specs.Lines.{IsLineStart, AreLineStarts, IsLineEnd, IsLineFrom, IsColumnIn, IsColumnAt}
use Rattle.schema_report.specs.Lines.{is_no_feed}
use Rattle.schema_report.specs.Places.{unit_len, utf16_len, units_at, place_at, feeds, since_feed}
use Rattle.schema_report.proofs.CharLemmas.{ones, same_front, no_front_inside, no_front_past, unit_len_bounds}
use Rattle.schema_report.proofs.FeedLemmas.{feeds-append, feeds-take-le, feeds-take-all, feeds_behind, since_start}
use Rattle.schema_report.proofs.FeedLemmas.{in_line_at, feed_counts, feed_from_test, line_has_no_feed}

-- the line in which a byte stands, by the starts
pub line_is : (text starts : List ℕ) (line byte : ℕ) → AreLineStarts text starts → line < length starts
    → get_or starts line 0 ≤ byte → (line + 1 < length starts → byte < get_or starts (line + 1) 0)
    → feeds (take byte text) ≡ line
line_is text starts line byte h within begun last =
    let this = h.each line within in
    let least = feeds-take-le text (get_or starts line 0) byte begun in
    ⊎_elim
    (λ (more : line + 1 < length starts).
    let next = h.each (line + 1) more in
    let before = last more in
    let n : ℕ = get_or starts (line + 1) 0 - 1 in
    let step : n + 1 ≡ get_or starts (line + 1) 0 = omega arith in
    let counted : feeds (take (n + 1) text) ≡ feeds (take n text) + 1 =
    feeds_behind text n (omega (arith, next.within)) (next.behind (omega arith)) in
    let whole : feeds (take (n + 1) text) ≡ line + 1 = ap (λ k. feeds (take k text)) step ∙ next.before in
    let most : feeds (take byte text) ≤ feeds (take n text) = feeds-take-le text byte n (omega arith) in
    let start_is : feeds (take (get_or starts line 0) text) ≡ line = this.before in
    omega arith)
    (λ (no : length starts ≤ line + 1).
    let most = feeds-take-all text byte in
    let count : length starts ≡ feeds text + 1 = h.all in
    let start_is : feeds (take (get_or starts line 0) text) ≡ line = this.before in
    omega arith)
    (cases_lt (line + 1) (length starts))

-- the bytes between a start and a later byte
pub cut_at : (text : List ℕ) (start byte : ℕ) → start ≤ byte
    → take byte text ≡ take start text ++ between start byte text
cut_at text start byte h =
    sym (take-append-drop start (take byte text))
    ∙ ap (λ front. front ++ drop start (take byte text)) (take-take start byte text h)
    ∙ ap (λ back. take start text ++ back) (sym (between_is text start byte))

pub no_feed_between : (text : List ℕ) (line start byte : ℕ) → IsLineStart text line start → start ≤ byte
    → feeds (take byte text) ≡ line → feeds (between start byte text) ≡ 0
no_feed_between text line start byte h order same =
    let parts : feeds (take byte text) ≡ feeds (take start text) + feeds (between start byte text) =
    ap feeds (cut_at text start byte order) ∙ feeds-append (take start text) (between start byte text) in
    let first : feeds (take start text) ≡ line = h.before in
    omega arith

-- the place of a byte behind the start of its line
pub place_from_start : (text : List ℕ) (line start byte : ℕ) → IsLineStart text line start → start ≤ byte
    → byte ≤ length text → feeds (take byte text) ≡ line
    → place_at text byte ≡ record {
      byte = byte;
      line = line;
      column = length (chars (between start byte text));
      utf16 = sum_by utf16_len (chars (between start byte text));
    }
place_from_start text line start byte h order within same =
    let ys = between start byte text in
    let since : since_feed (take byte text) ≡ ys = ap since_feed (cut_at text start byte order)
    ∙ since_start text start ys h.within h.behind (no_feed_between text line start byte h order same) in
    let len : length (take byte text) ≡ byte = length-take-le byte text within in
    λ i. record {
      byte = len i;
      line = same i;
      column = length (chars (since i));
      utf16 = sum_by utf16_len (chars (since i));
    }

pub column_from_start : (units : Units) (text : List ℕ) (line start byte : ℕ) → IsLineStart text line start
    → start ≤ byte → byte ≤ length text → feeds (take byte text) ≡ line
    → units_at units (place_at text byte) ≡ sum_by (unit_len units) (chars (between start byte text))
column_from_start Characters text line start byte h order within same =
    ap (λ (p : Place). p.column) (place_from_start text line start byte h order within same)
    ∙ sym (ones (chars (between start byte text)))
column_from_start Utf16 text line start byte h order within same =
    ap (λ (p : Place). p.utf16) (place_from_start text line start byte h order within same)

pub start_boundary : (text : List ℕ) (line start : ℕ) → IsUtf8 text → IsLineStart text line start
    → IsCharBoundary text start
start_boundary text line start u h = ⊎_elim
    (λ (some : 0 < start).
    let step : start - 1 + 1 ≡ start = omega arith in
    let feed = h.behind some in
    let within = h.within in
    subst (IsCharBoundary text) step (IsCharBoundary-after_ascii text (start - 1) u (omega arith) (omega arith)))
    (λ (first : start ≤ 0).
    let zero_start : 0 ≡ start = omega arith in
    subst (IsCharBoundary text) zero_start (IsCharBoundary-start text u))
    (cases_lt 0 start)

-- the starts rise
pub next_start : (text : List ℕ) (line start next : ℕ) → IsLineStart text line start → IsLineStart text (line + 1) next
    → start < next
next_start text line start next h k = ⊎_elim
    (λ (order : start < next). order)
    (λ (other : next ≤ start).
    let most = feeds-take-le text next start other in
    let this : feeds (take start text) ≡ line = h.before in
    let that : feeds (take next text) ≡ line + 1 = k.before in
    absurd (omega arith))
    (cases_lt start next)

-- a line ends before the next one
pub ends_before_next : (text : List ℕ) (line start next : ℕ) → IsLineStart text line start
    → IsLineStart text (line + 1) next → IsLineEnd text line start (next - 1)
ends_before_next text line start next h k =
    let order = next_start text line start next h k in
    let n : ℕ = next - 1 in
    let step : n + 1 ≡ next = omega arith in
    let within = k.within in
    let feed : get_or text n 0 ≡ 10 = k.behind (omega arith) in
    let counted : feeds (take (n + 1) text) ≡ feeds (take n text) + 1 = feeds_behind text n (omega arith) feed in
    let whole : feeds (take (n + 1) text) ≡ line + 1 = ap (λ j. feeds (take j text)) step ∙ k.before in
    record { behind = omega arith; within = omega arith; same = omega arith; stops = λ _. feed }

-- the last line ends with the text
pub ends_with_text : (text starts : List ℕ) (line : ℕ) → AreLineStarts text starts → line < length starts
    → length starts ≤ line + 1 → IsLineEnd text line (get_or starts line 0) (length text)
ends_with_text text starts line h within last =
    let this = h.each line within in
    let whole : feeds (take (length text) text) ≡ line =
    line_is text starts line (length text) h within this.within (λ more. absurd (omega arith)) in
    record { behind = this.within; within = omega arith; same = whole; stops = λ more. absurd (omega arith) }

pub end_boundary : (text : List ℕ) (line start end : ℕ) → IsLineEnd text line start end → IsCharBoundary text end
end_boundary text line start end h = ⊎_elim
    (λ (more : end < length text).
    let feed = h.stops more in
    IsCharBoundary-before_ascii text end more (omega arith))
    (λ (last : length text ≤ end).
    let within = h.within in
    let whole : length text ≡ end = omega arith in
    subst (IsCharBoundary text) whole (IsCharBoundary-end text))
    (cases_lt end (length text))

-- the bytes between the start and the end of a line
pub line_from_end : (text : List ℕ) (line start end : ℕ) → IsLineStart text line start → IsLineEnd text line start end
    → IsLineFrom text line start (between start end text)
line_from_end text line start end h e =
    let xs = drop start text in
    let n : ℕ = end - start in
    let none : feeds (take n xs) ≡ 0 = no_feed_between text line start end h e.behind e.same in
    let behind = e.behind in
    let within = e.within in
    let len : length xs ≡ length text - start = length-drop start text in
    let cut : length (take n xs) ≡ n = length-take-le n xs (omega arith) in
    let count : prefix_len is_no_feed xs ≡ n = prefix_len_is is_no_feed xs n 0 (omega arith)
    (λ k l. ap is_no_feed (sym (get_or-take n xs k 0 l)) ∙ in_line_at (take n xs) k none (omega arith))
    (λ l. ap is_no_feed (get_or-drop start text n 0 ∙ ap (λ j. get_or text j 0) (omega arith)
    ∙ e.stops (omega arith))) in
    record { begins = h; whole = ap (λ k. take k xs) (sym count) }

-- a place in a line is a place in the text
pub column_in_text : (text : List ℕ) (units : Units) (line start : ℕ) (bytes : List ℕ) (column at : ℕ)
    → IsLineFrom text line start bytes → IsColumnIn bytes units column at
    → IsColumnAt text units line column (start + at)
column_in_text text units line start bytes column at f h =
    let xs = drop start text in
    let n : ℕ = prefix_len is_no_feed xs in
    let whole : bytes ≡ take n xs = f.whole in
    let all : length xs ≡ length text - start = length-drop start text in
    let short : n ≤ length xs = prefix_len-le-length is_no_feed xs in
    let len : length bytes ≡ n = ap length whole ∙ length-take-le n xs short in
    let begun = f.begins.within in
    let within : at ≤ length bytes = h.boundary.0 in
    let few : at ≤ n = omega arith in
    let byte : ℕ = start + at in
    let mid : between start byte text ≡ take at bytes = ap (λ k. take k xs) (omega arith)
    ∙ sym (ap (take at) whole ∙ take-take at n xs few) in
    let none : feeds bytes ≡ 0 = ap feeds f.whole ∙ line_has_no_feed xs in
    let fewer : feeds (take at bytes) ≤ feeds bytes = feeds-take-all bytes at in
    let part : feeds (between start byte text) ≡ feeds (take at bytes) = ap feeds mid in
    let same : feeds (take byte text) ≡ line = ap feeds (cut_at text start byte (omega arith))
    ∙ feeds-append (take start text) (between start byte text)
    ∙ ap (λ k. k + feeds (between start byte text)) f.begins.before ∙ omega arith in
    let end : byte ≤ length text = omega arith in
    record {
      boundary = (
        end,
        λ more high. boundary_there text bytes start at n len few whole short
            (λ l. feed_from_test _ (prefix_len_stops is_no_feed xs 0 l)) h.boundary more high,
      );
      in_line = same;
      in_column = column_from_start units text line start byte f.begins (omega arith) end same
          ∙ ap (λ part. sum_by (unit_len units) (chars part)) mid ∙ h.ahead;
    }
  where
    boundary_there : (text bytes : List ℕ) (start at n : ℕ) → length bytes ≡ n → at ≤ n
        → bytes ≡ take n (drop start text) → n ≤ length (drop start text)
        → (n < length (drop start text) → get_or (drop start text) n 0 ≡ 10) → IsCharBoundary bytes at
        → start + at < length text → 128 ≤ get_or text (start + at) 0 → 192 ≤ get_or text (start + at) 0
    boundary_there text bytes start at n len few whole short stops b more high = ⊎_elim
        (λ (inside : at < n).
        let read : get_or bytes at 0 ≡ get_or text (start + at) 0 = ap (λ (xs : List ℕ). get_or xs at 0) whole
        ∙ get_or-take n (drop start text) at 0 inside ∙ get_or-drop start text at 0 in
        let old : 192 ≤ get_or bytes at 0 = b.1 (omega arith) (omega arith) in
        omega arith)
        (λ (last : n ≤ at).
        let all : length (drop start text) ≡ length text - start = length-drop start text in
        let same : at ≡ n = omega arith in
        let read : get_or text (start + at) 0 ≡ 10 = sym (get_or-drop start text at 0)
        ∙ ap (λ k. get_or (drop start text) k 0) same ∙ stops (omega arith) in
        absurd (omega arith))
        (cases_lt at n)

-- a place in the text is a place in its line
pub column_from_text : (text : List ℕ) (units : Units) (line start : ℕ) (bytes : List ℕ) (column byte : ℕ)
    → IsLineFrom text line start bytes → IsColumnAt text units line column byte
    → (at : ℕ) × IsColumnIn bytes units column at × (byte ≡ start + at)
column_from_text text units line start bytes column byte f h =
    let xs = drop start text in
    let n : ℕ = prefix_len is_no_feed xs in
    let at : ℕ = byte - start in
    let whole : bytes ≡ take n xs = f.whole in
    let all : length xs ≡ length text - start = length-drop start text in
    let short : n ≤ length xs = prefix_len-le-length is_no_feed xs in
    let len : length bytes ≡ n = ap length whole ∙ length-take-le n xs short in
    let within : byte ≤ length text = h.boundary.0 in
    let same : feeds (take byte text) ≡ line = h.in_line in
    let order : start ≤ byte = behind_start text line start byte f.begins same in
    let none : feeds (take at xs) ≡ 0 = no_feed_between text line start byte f.begins order same in
    let few : at ≤ n = before_feed xs at n none (omega arith)
    (λ l. feed_from_test _ (prefix_len_stops is_no_feed xs 0 l)) in
    let there : start + at ≡ byte = omega arith in
    let tied : take at bytes ≡ take at xs = ap (take at) whole ∙ take-take at n xs few in (
      at,
      record {
        boundary = (
          omega arith,
          λ more high.
              let read : get_or bytes at 0 ≡ get_or text byte 0 = ap (λ (b : List ℕ). get_or b at 0) whole
              ∙ get_or-take n xs at 0 (omega arith) ∙ get_or-drop start text at 0 ∙ ap (λ k. get_or text k 0) there in
              let old : 192 ≤ get_or text byte 0 = h.boundary.1 (omega arith) (omega arith) in
              omega arith,
        );
        ahead = ap (λ part. sum_by (unit_len units) (chars part)) tied
            ∙ sym (column_from_start units text line start byte f.begins order within same) ∙ h.in_column;
      },
      sym there,
    )
  where
    behind_start : (text : List ℕ) (line start byte : ℕ) → IsLineStart text line start → feeds (take byte text) ≡ line
        → start ≤ byte
    behind_start text line start byte b same = ⊎_elim
        (λ (before : byte < start).
        let n : ℕ = start - 1 in
        let step : n + 1 ≡ start = omega arith in
        let within = b.within in
        let counted : feeds (take (n + 1) text) ≡ feeds (take n text) + 1 =
        feeds_behind text n (omega arith) (b.behind (omega arith)) in
        let all : feeds (take (n + 1) text) ≡ line = ap (λ k. feeds (take k text)) step ∙ b.before in
        let most = feeds-take-le text byte n (omega arith) in
        absurd (omega arith))
        (λ (order : start ≤ byte). order)
        (cases_lt byte start)

    before_feed : (xs : List ℕ) (at n : ℕ) → feeds (take at xs) ≡ 0 → at ≤ length xs
        → (n < length xs → get_or xs n 0 ≡ 10) → at ≤ n
    before_feed xs at n none within stops = ⊎_elim
        (λ (past : n < at).
        let len : length (take at xs) ≡ at = length-take-le at xs within in
        let feed : get_or (take at xs) n 0 ≡ 10 = get_or-take at xs n 0 past ∙ stops (omega arith) in
        let some = feed_counts (take at xs) n (omega arith) feed in
        absurd (omega arith))
        (λ (order : at ≤ n). order)
        (cases_lt n at)

-- a walk along a line: what it passed, what is left of it, and how many units are still to pass
pub record Walked (line : List ℕ) (units : Units) (column : ℕ) (rest : List ℕ) (left : ℕ) : Type 0 where
  pub front : List ℕ
  pub cut : line ≡ encode_utf8_all front ++ rest
  pub characters : chars line ≡ front ++ chars rest
  pub utf8 : IsUtf8 rest
  pub sum : sum_by (unit_len units) front + left ≡ column

pub walk_begins : (line : List ℕ) (units : Units) (column : ℕ) → IsUtf8 line → Walked line units column line column
walk_begins line units column u = record { front = []; cut = refl; characters = refl; utf8 = u; sum = omega arith }

pub walk_goes_on : (line : List ℕ) (units : Units) (column : ℕ) (rest after : List ℕ) (c left : ℕ)
    → Walked line units column rest left → IsFirstChar rest c after → unit_len units c ≤ left
    → Walked line units column after (left - unit_len units c)
walk_goes_on line units column rest after c left w h fits =
    let front = w.front in
    let sum : sum_by (unit_len units) front + left ≡ column = w.sum in
    record {
      front = front ++ c ∷ [];
      cut = w.cut ∙ ap (λ xs. encode_utf8_all front ++ xs) h.bytes
          ∙ sym (append_assoc (encode_utf8_all front) (encode_utf8 c) after)
          ∙ ap (λ xs. xs ++ after) (sym (one_more front c));
      characters = w.characters ∙ ap (λ xs. front ++ xs) h.characters ∙ sym (append_assoc front (c ∷ []) (chars
          after));
      utf8 = h.utf8;
      sum = omega (arith, sum_by_push (unit_len units) front c);
    }
  where
    one_more : (front : List ℕ) (c : ℕ) → encode_utf8_all (front ++ c ∷ []) ≡ encode_utf8_all front ++ encode_utf8 c
    one_more front c = encodes-append front (c ∷ [])
        ∙ ap (λ xs. encode_utf8_all front ++ xs) (append-nil (encode_utf8 c))

-- the front and the back of a line that is cut between two characters
pub front_of : (line : List ℕ) (at : ℕ) → IsUtf8 line → IsCharBoundary line at
    → (chars line ≡ chars (take at line) ++ chars (drop at line))
    × (length (encode_utf8_all (chars (take at line))) ≡ at)
front_of line at u b =
    let v = IsUtf8-take line at u b in (
      ap chars (sym (take-append-drop at line)) ∙ chars-append (take at line) (drop at line) v,
      ap length (encodes-chars (take at line) v) ∙ length-take-le at line b.0,
    )

pub walk_ends : (line : List ℕ) (units : Units) (column : ℕ) (rest : List ℕ) (left : ℕ) → IsUtf8 line
    → Walked line units column rest left → left ≤ 0 → IsColumnIn line units column (length line - length rest)
walk_ends line units column rest left u w none =
    let front = w.front in
    let n : ℕ = length (encode_utf8_all front) in
    let len : length line ≡ n + length rest = ap length w.cut ∙ length-append (encode_utf8_all front) rest in
    let at : n ≡ length line - length rest = omega arith in
    let boundary : IsCharBoundary line n = IsCharBoundary-at_seam line (encode_utf8_all front) rest w.cut w.utf8 in
    let cut : take n line ≡ encode_utf8_all front = ap (take n) w.cut ∙ take_at (encode_utf8_all front) rest n refl in
    let parts = front_of line n u boundary in
    let back : drop n line ≡ rest = ap (drop n) w.cut ∙ drop_at (encode_utf8_all front) rest n refl in
    let same : chars (take n line) ≡ front = append_cancel_right (chars (take n line)) front (chars rest)
    (ap (λ xs. chars (take n line) ++ chars xs) (sym back) ∙ sym parts.0 ∙ w.characters) in
    let sum : sum_by (unit_len units) front + left ≡ column = w.sum in
    let ahead : sum_by (unit_len units) (chars (take n line)) ≡ column =
    ap (sum_by (unit_len units)) same ∙ omega arith in
    subst (IsColumnIn line units column) at (record { boundary = boundary; ahead = ahead })

pub walk_finds : (line : List ℕ) (units : Units) (column : ℕ) (rest : List ℕ) (left at : ℕ) → IsUtf8 line
    → Walked line units column rest left → left ≤ 0 → IsColumnIn line units column at → length line - length rest ≡ at
walk_finds line units column rest left at u w none h =
    let front = w.front in
    let parts = front_of line at u h.boundary in
    let sum : sum_by (unit_len units) front + left ≡ column = w.sum in
    let ahead : sum_by (unit_len units) (chars (take at line)) ≡ column = h.ahead in
    let same : front ≡ chars (take at line) = same_front (unit_len units) (λ c. (unit_len_bounds units c).0)
    front (chars rest) (chars (take at line)) (chars (drop at line)) (sym w.characters ∙ parts.0) (omega arith) in
    let len : length line ≡ length (encode_utf8_all front) + length rest =
    ap length w.cut ∙ length-append (encode_utf8_all front) rest in
    let size : length (encode_utf8_all front) ≡ at = ap (λ xs. length (encode_utf8_all xs)) same ∙ parts.1 in
    omega arith

pub walk_stops : (line : List ℕ) (units : Units) (column : ℕ) (rest : List ℕ) (left at : ℕ) → IsUtf8 line
    → Walked line units column rest left → 0 < left → rest ≡ [] → IsColumnIn line units column at → ⊥
walk_stops line units column rest left at u w more none h =
    let front = w.front in
    let parts = front_of line at u h.boundary in
    let whole : chars line ≡ front = w.characters ∙ ap (λ xs. front ++ chars xs) none
    ∙ ap (λ xs. front ++ xs) chars-nil ∙ append-nil front in
    let sum : sum_by (unit_len units) front + left ≡ column = w.sum in
    let ahead : sum_by (unit_len units) (chars (take at line)) ≡ column = h.ahead in
    no_front_past (unit_len units) front (chars (take at line)) (chars (drop at line))
    (sym whole ∙ parts.0) (omega arith)

pub walk_misses : (line : List ℕ) (units : Units) (column : ℕ) (rest after : List ℕ) (c left at : ℕ) → IsUtf8 line
    → Walked line units column rest left → IsFirstChar rest c after → 0 < left → left < unit_len units c
    → IsColumnIn line units column at → ⊥
walk_misses line units column rest after c left at u w f more wide h =
    let front = w.front in
    let parts = front_of line at u h.boundary in
    let sum : sum_by (unit_len units) front + left ≡ column = w.sum in
    let ahead : sum_by (unit_len units) (chars (take at line)) ≡ column = h.ahead in
    no_front_inside (unit_len units) front c (chars after) (chars (take at line)) (chars (drop at line))
    (ap (λ xs. front ++ xs) (sym f.characters) ∙ sym w.characters ∙ parts.0) (omega arith) (omega arith)
