-- A text that is laid out has the tokens that it was laid out from.
use Rattle.std.proofs.Common.{◌≡◌, ◌≢◌, ℕ, ◌+◌, ◌-◌, true, false, not, ◌==◌, cond, if◌then◌else◌, Option, List, [], ◌∷◌}
use Rattle.std.proofs.Common.{◌++◌, length, take, drop, Some, refl, sym, ap, ◌∙◌, subst, inl, inr, arith, slice_range}
use Rattle.std.proofs.lemmas.List.{append_assoc, take_at, drop_at, length-append}
use Rattle.std.proofs.lemmas.Bool.{or_cases, eqb-true, cases_Bool, cases_eq, ne_eqb}
use Rattle.std.proofs.lemmas.Str.{encode_ascii}
use Rattle.cedar_data.specs.Words.{is_word_part}
use Rattle.schema_syntax_grammar.specs.declared.token_kind.TokenKind.{TokenKind}
use Rattle.schema_syntax_grammar.specs.Grammar.{is_word_kind}
use Rattle.schema_syntax_tokens.specs.declared.token.Token.{Token}
use Rattle.schema_syntax_tokens.specs.Forms.{single_mark, mark_kind, IsForm}
use Rattle.schema_syntax_tokens.specs.Scans.{IsSpace, IsPastBlank, Skips, ScansFrom, Scans}
use Rattle.schema_syntax_tokens.specs.Scans.Skips.{none, more}
use Rattle.schema_syntax_tokens.specs.Laid.{Lexeme, Piece, laid, lexemes_of, tokens_from}
use Rattle.schema_syntax_tokens.specs.Laid.{is_plain_blank, AreBlanks, Edge, free, word, colon, edge_of, may_touch}
use Rattle.schema_syntax_tokens.specs.Laid.{Follow, done, by_gap, by_blanks, by_lexeme, Spells, HasLexemes}
use Rattle.schema_syntax_tokens.specs.Laid as L
use Rattle.schema_syntax_tokens.proofs.Blank.{NoBlank-nil}
use Rattle.schema_syntax_tokens.proofs.Longest.{NoForm-nil, no_form_nil, two_colons}
use Rattle.schema_syntax_tokens.proofs.Standing.{Ends, stands, word_kind_word}

plain_is_space : (b : ℕ) → is_plain_blank b ≡ true → IsSpace (b ∷ [])
plain_is_space b h =
    elim (or_cases (b == 32) (b == 10) h) [
      | inl e ↦ subst (λ x. IsSpace (x ∷ [])) (sym (eqb-true b 32 e)) (32, refl, sym (encode_ascii 32 (omega arith)))
      | inr e ↦ subst (λ x. IsSpace (x ∷ [])) (sym (eqb-true b 10 e)) (10, refl, sym (encode_ascii 10 (omega arith)))
    ]

line_feed : (rest : List ℕ) → IsPastBlank (10 ∷ rest) rest
line_feed rest = (10 ∷ [], refl, inl (plain_is_space 10 refl))

-- blanks are skipped, whatever follows them
pub skips_blanks : {bs : List ℕ} → AreBlanks bs → (rest here : List ℕ) → Skips rest here → Skips (bs ++ rest) here
skips_blanks L.none rest here s = s
skips_blanks (L.blank {b} {bs} h g) rest here s =
    more (b ∷ [], refl, inl (plain_is_space b h)) (skips_blanks g rest here s)
skips_blanks (L.comment line {bs} h g) rest here s =
    let after = bs ++ rest in
    let whole : (47 ∷ 47 ∷ (line ++ 10 ∷ bs)) ++ rest ≡ (47 ∷ 47 ∷ line)
    ++ 10 ∷ after = ap (λ x. 47 ∷ 47 ∷ x) (append_assoc line (10 ∷ bs) rest) in
    more {after = 10 ∷ after} (47 ∷ 47 ∷ line, whole, inr (line, refl, h, inl refl))
    (more (line_feed after) (skips_blanks g rest here s))

-- one more gap, or one more lexeme, in front
scans_gap : (from at : ℕ) (bs rest : List ℕ) (ts : List Token) → AreBlanks bs
    → ScansFrom (from + length bs) rest ts at → ScansFrom from (bs ++ rest) ts at
scans_gap from at bs rest [] g s =
    (s.0, skips_blanks g rest s.0 s.1, omega (arith, s.2, length-append bs rest), s.3, s.4)
scans_gap from at bs rest (t ∷ ts) g s =
    let n = s.2 in (
      s.0,
      s.1,
      record {
        skips = skips_blanks g rest s.0 n.skips;
        token = n.token;
        start = omega (arith, n.start, length-append bs rest);
        stop = n.stop;
      },
      s.3,
    )

scans_lexeme : (from at : ℕ) (x : Lexeme) (rest : List ℕ) (ts : List Token) → IsForm x.text x.kind
    → Ends (edge_of x.kind) rest → ScansFrom (from + length x.text) rest ts at
    → ScansFrom from (x.text ++ rest)
    (record { kind = x.kind; loc = record { start = from; end = from + length x.text } } ∷ ts) at
scans_lexeme from at x rest ts f e s = (
  x.text ++ rest,
  length x.text,
  record { skips = none; token = stands x.text rest x.kind f e; start = refl; stop = refl },
  subst (λ r. ScansFrom (from + length x.text) r ts at) (sym (drop_at x.text rest (length x.text) refl)) s,
)

ends_at_blank : (e : Edge) (b : ℕ) (after : List ℕ) → is_word_part b ≡ false → b ≢ 58 → Ends e (b ∷ after)
ends_at_blank free b after h n = tt
ends_at_blank word b after h n = h
ends_at_blank colon b after h n = n

plain_no_part : (b : ℕ) → is_plain_blank b ≡ true → is_word_part b ≡ false
plain_no_part b h =
    elim (or_cases (b == 32) (b == 10) h)
    [ inl e ↦ ap is_word_part (eqb-true b 32 e) | inr e ↦ ap is_word_part (eqb-true b 10 e) ]

plain_no_colon : (b : ℕ) → is_plain_blank b ≡ true → b ≢ 58
plain_no_colon b h n = let f : false ≡ true = ap is_plain_blank (sym n) ∙ h in cc

-- a gap with a byte ends whatever stands in front of it
ends_at_gap : (e : Edge) (b : ℕ) (bs rest : List ℕ) → AreBlanks (b ∷ bs) → Ends e ((b ∷ bs) ++ rest)
ends_at_gap e b bs rest (L.blank h g) = ends_at_blank e b (bs ++ rest) (plain_no_part b h) (plain_no_colon b h)
ends_at_gap e b bs rest (L.comment line {bs = after} h g) =
    ends_at_blank e 47 ((47 ∷ (line ++ 10 ∷ after)) ++ rest) refl (omega arith)

at_byte : (b n : ℕ) (k : TokenKind) (x r : Option TokenKind) → is_word_part n ≡ false
    → (r ≡ Some k → is_word_part b ≡ false)
    → (if b == n then x else r) ≡ Some k → is_word_part b ≡ false
at_byte b n k x r here there h =
    elim (cases_eq b n) [
      | inl e ↦ ap is_word_part e ∙ here
      | inr ne ↦ there (sym (ap (λ t. cond t x r) (ne_eqb b n ne)) ∙ h)
    ]

byte_no_part : (b : ℕ) (k : TokenKind) → single_mark b ≡ Some k → is_word_part b ≡ false
byte_no_part b k h =
    at_byte b 64 k _ _ refl (at_byte b 44 k _ _ refl
    (at_byte b 59 k _ _ refl (at_byte b 58 k _ _ refl (at_byte b 40 k _ _ refl (at_byte b 41 k _ _ refl
    (at_byte b 123 k _ _ refl (at_byte b 125 k _ _ refl
    (at_byte b 91 k _ _ refl (at_byte b 93 k _ _ refl (at_byte b 60 k _ _ refl (at_byte b 62 k _ _ refl
    (at_byte b 63 k _ _ refl (at_byte b 61 k _ _ refl (λ e. cc)))))))))))))) h

mark_no_part : (b : ℕ) (bs : List ℕ) (k : TokenKind) → mark_kind (b ∷ bs) ≡ Some k → is_word_part b ≡ false
mark_no_part b [] k h = byte_no_part b k h
mark_no_part b (c ∷ []) k h = ap is_word_part (two_colons b c k h).0
mark_no_part b (c ∷ d ∷ bs) k h = cc

-- what is no word begins with no part of a word
form_no_part : (w rest : List ℕ) (k : TokenKind) → IsForm w k → is_word_kind k ≡ false → Ends word (w ++ rest)
form_no_part w rest k (inl f) h = let e : false ≡ true = sym h ∙ (ap is_word_kind f.1 ∙ word_kind_word w) in cc
form_no_part [] rest k (inr f) h = absurd (no_form_nil k (inr f))
form_no_part (b ∷ bs) rest k (inr (inl f)) h = mark_no_part b bs k f
form_no_part (b ∷ bs) rest k (inr (inr f)) h =
    let e : b ≡ 34 = let g : b ∷ bs ≡ 34 ∷ (f.0.0 ++ 34 ∷ []) = f.0.2 in cc in ap is_word_part e

ends_at_lexeme : (e : Edge) (x : Lexeme) (rest : List ℕ) → IsForm x.text x.kind → may_touch e x.kind ≡ true
    → Ends e (x.text ++ rest)
ends_at_lexeme free x rest f h = tt
ends_at_lexeme word x rest f h =
    elim (cases_Bool (is_word_kind x.kind)) [
      | inl w ↦ let g : not true ≡ true = ap not (sym w) ∙ h in cc
      | inr w ↦ form_no_part x.text rest x.kind f w
    ]
ends_at_lexeme colon x rest f h = cc

ends_nil : (e : Edge) → Ends e []
ends_nil free = tt
ends_nil word = tt
ends_nil colon = tt

-- the bytes of the pieces end what stands in front of them
pub follow_end : {e : Edge} {ps : List Piece} → Follow e ps → Ends e (laid ps)
follow_end {e} (done h) = ends_nil e
follow_end {e} (by_gap {b = b} {bs = bs} {ps = ps} g s) = ends_at_gap e b bs (laid ps) g
follow_end {e} (by_blanks {bytes = []} {ps = ps} g s) = follow_end s
follow_end {e} (by_blanks {bytes = b ∷ bs} {ps = ps} g s) = ends_at_gap e b bs (laid ps) g
follow_end {e} (by_lexeme {x = x} {ps = ps} f m s) = ends_at_lexeme e x (laid ps) f m

-- past a gap and past a lexeme, to the end of the text
past_gap : (from : ℕ) (bs rest : List ℕ) (ts : List Token) → AreBlanks bs
    → ScansFrom (from + length bs) rest ts (from + length bs + length rest)
    → ScansFrom from (bs ++ rest) ts (from + length (bs ++ rest))
past_gap from bs rest ts g s =
    let e : from + length bs + length rest ≡ from + length (bs ++ rest) = omega (arith, length-append bs rest) in
    scans_gap from (from + length (bs ++ rest)) bs rest ts g (subst (λ at. ScansFrom (from + length bs) rest ts at) e s)

past_lexeme : (from : ℕ) (x : Lexeme) (rest : List ℕ) (ts : List Token) → IsForm x.text x.kind
    → Ends (edge_of x.kind) rest → ScansFrom (from + length x.text) rest ts (from + length x.text + length rest)
    → ScansFrom from (x.text ++ rest)
    (record { kind = x.kind; loc = record { start = from; end = from + length x.text } } ∷ ts)
    (from + length (x.text ++ rest))
past_lexeme from x rest ts f e s =
    let same : from + length x.text + length rest
    ≡ from + length (x.text ++ rest) = omega (arith, length-append x.text rest) in
    scans_lexeme from (from + length (x.text ++ rest)) x rest ts f e
    (subst (λ at. ScansFrom (from + length x.text) rest ts at) same s)

pub laid_scans : {e : Edge} {ps : List Piece} → Follow e ps → (from : ℕ)
    → ScansFrom from (laid ps) (tokens_from from ps) (from + length (laid ps))
laid_scans (done h) from = ([], none, omega arith, NoBlank-nil, NoForm-nil)
laid_scans (by_gap {b = b} {bs = bs} {ps = ps} g s) from =
    past_gap from (b ∷ bs) (laid ps) (tokens_from (from + length (b ∷ bs)) ps) g (laid_scans s (from + length (b ∷ bs)))
laid_scans (by_blanks {bytes = bytes} {ps = ps} g s) from =
    past_gap from bytes (laid ps) (tokens_from (from + length bytes) ps) g (laid_scans s (from + length bytes))
laid_scans (by_lexeme {x = x} {ps = ps} f m s) from =
    past_lexeme from x (laid ps) (tokens_from (from + length x.text) ps) f (follow_end s)
    (laid_scans s (from + length x.text))

-- the pieces behind a front are spelled by their tokens
spelled_behind : {e : Edge} {ps : List Piece} → Follow e ps → (front : List ℕ) (from : ℕ) (whole : List ℕ)
    → from ≡ length front → whole ≡ front ++ laid ps → Spells whole (tokens_from from ps) (lexemes_of ps)
spelled_behind (done h) front from whole e w = tt
spelled_behind (by_gap {b = b} {bs = bs} {ps = ps} g s) front from whole e w =
    spelled_behind s (front ++ (b ∷ bs)) (from + length (b ∷ bs)) whole (omega (arith, length-append front (b ∷ bs)))
    (w ∙ sym (append_assoc front (b ∷ bs) (laid ps)))
spelled_behind (by_blanks {bytes = bytes} {ps = ps} g s) front from whole e w =
    spelled_behind s (front ++ bytes) (from + length bytes) whole (omega (arith, length-append front bytes))
    (w ∙ sym (append_assoc front bytes (laid ps)))
spelled_behind (by_lexeme {x = x} {ps = ps} f m s) front from whole e w =
    let behind : drop from whole ≡ x.text ++ laid ps = ap (λ n. drop n whole) e
    ∙ (ap (λ t. drop (length front) t) w ∙ drop_at front (x.text ++ laid ps) (length front) refl) in
    let width : from + length x.text - from ≡ length x.text = omega arith in
    let here : slice_range whole from (from + length x.text) ≡ x.text =
    ap (λ n. take n (drop from whole)) width
    ∙ (ap (λ t. take (length x.text) t) behind ∙ take_at x.text (laid ps) (length x.text) refl) in (
      (refl, here, f),
      spelled_behind s (front ++ x.text) (from + length x.text) whole (omega (arith, length-append front x.text))
          (w ∙ sym (append_assoc front x.text (laid ps))),
    )

-- what is laid out is read as its lexemes
pub laid_reads : {e : Edge} {ps : List Piece} → Follow e ps → HasLexemes (laid ps) (lexemes_of ps)
laid_reads {e} {ps} s =
    record {
      tokens = tokens_from 0 ps;
      scans = subst (λ at. Scans (laid ps) (tokens_from 0 ps) at) (omega arith) (laid_scans s 0);
      spells = spelled_behind s [] 0 (laid ps) refl refl;
    }
