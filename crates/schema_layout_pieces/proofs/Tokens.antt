-- The tokens among the pieces of a text are the tokens of the text, and each text that tokens go through has pieces.
use Rattle.std.proofs.Common.{◌≡◌, ℕ, ◌+◌, ◌-◌, Bool, true, false, not, ◌&&◌, List, [], ◌∷◌, ◌++◌, length}
use Rattle.std.proofs.Common.{take, drop, slice_range, refl, sym, ap, ◌∙◌, subst, inl, inr, arith}
use Rattle.std.specs.Char.{encode_utf8}
use Rattle.std.proofs.lemmas.List.{append_assoc, take_at, drop_at, length-append, take-append-drop, length-take-le}
use Rattle.schema_syntax_grammar.specs.declared.token_kind.TokenKind.{TokenKind}
use Rattle.schema_syntax_tokens.specs.declared.token.Token.{Token}
use Rattle.schema_syntax_tokens.specs.Laid.{Lexeme, Spells, HasLexemes}
use Rattle.schema_syntax_tokens.specs.Scans.{IsPastBlank, Skips, IsLongest, ScansFrom, Scans}
use Rattle.schema_syntax_tokens.specs.Scans as K
use Rattle.schema_syntax_tokens.specs.TokenLists as T
use Rattle.schema_syntax_tokens.proofs.Blank.{NoBlank-nil}
use Rattle.schema_syntax_tokens.proofs.Longest.{NoForm-nil}
use Rattle.schema_layout_pieces.specs.Pieces.{SourcePiece, token, comment, lexemes_among, kinds_among, ends_line}
use Rattle.schema_layout_pieces.specs.Pieces.{HasPieces, IsPieces}
use Rattle.schema_layout_pieces.specs.Pieces.HasPieces.{none, blank, note, lexeme}
use Rattle.schema_layout_pieces.proofs.OnePieces.{form_here}

-- one blank more in front
scans_blank : (from at : ℕ) (b rest : List ℕ) (ts : List Token) → IsPastBlank (b ++ rest) rest
    → ScansFrom (from + length b) rest ts at → ScansFrom from (b ++ rest) ts at
scans_blank from at b rest [] g s =
    (s.0, K.more g s.1, omega (arith, s.2, length-append b rest), s.3, s.4)
scans_blank from at b rest (t ∷ ts) g s =
    let n = s.2 in (
      s.0,
      s.1,
      record {
        skips = K.more g n.skips;
        token = n.token;
        start = omega (arith, n.start, length-append b rest);
        stop = n.stop;
      },
      s.3,
    )

-- the rest of a text, which begins at the byte from, is read as these lexemes
abbrev Reads : ℕ → List ℕ → List ℕ → List Lexeme → Type 0
Reads from whole rest xs = (ts : List Token) × ScansFrom from rest ts (from + length rest) × Spells whole ts xs

reads_blank : (from : ℕ) (whole b rest : List ℕ) (xs : List Lexeme) → IsPastBlank (b ++ rest) rest
    → Reads (from + length b) whole rest xs → Reads from whole (b ++ rest) xs
reads_blank from whole b rest xs g r =
    let e : from + length b + length rest ≡ from + length (b ++ rest) = omega (arith, length-append b rest) in (
      r.0,
      scans_blank from (from + length (b ++ rest)) b rest r.0 g
          (subst (λ at. ScansFrom (from + length b) rest r.0 at) e r.1),
      r.2,
    )

reads_lexeme : (from : ℕ) (whole front rest : List ℕ) (x : Lexeme) (xs : List Lexeme) → from ≡ length front
    → whole ≡ front ++ (x.text ++ rest) → IsLongest (x.text ++ rest) x.kind (length x.text)
    → Reads (from + length x.text) whole rest xs → Reads from whole (x.text ++ rest) (x ∷ xs)
reads_lexeme from whole front rest x xs e w i r =
    let at : ℕ = from + length x.text in
    let t : Token = record { kind = x.kind; loc = record { start = from; end = at } } in
    let same : at + length rest ≡ from + length (x.text ++ rest) = omega (arith, length-append x.text rest) in
    let behind : drop from whole ≡ x.text ++ rest = ap (λ n. drop n whole) e
    ∙ (ap (λ t. drop (length front) t) w ∙ drop_at front (x.text ++ rest) (length front) refl) in
    let width : at - from ≡ length x.text = omega arith in
    let here : slice_range whole from at ≡ x.text =
    ap (λ n. take n (drop from whole)) width
    ∙ (ap (λ t. take (length x.text) t) behind ∙ take_at x.text rest (length x.text) refl) in
    let left : ScansFrom at (drop (length x.text) (x.text ++ rest)) r.0 (from + length (x.text ++ rest)) =
    subst (λ u. ScansFrom at u r.0 (from + length (x.text ++ rest))) (sym (drop_at x.text rest (length x.text) refl))
    (subst (λ n. ScansFrom at rest r.0 n) same r.1) in (
      t ∷ r.0,
      (x.text ++ rest, length x.text, record { skips = K.none; token = i; start = refl; stop = refl }, left),
      ((refl, here, form_here x rest i), r.2),
    )

reads : {near : Bool} {rest : List ℕ} {ps : List SourcePiece} → HasPieces near rest ps → (from : ℕ)
    → (whole front : List ℕ) → from ≡ length front → whole ≡ front ++ rest → Reads from whole rest (lexemes_among ps)
reads none from whole front e w = ([], ([], K.none, omega arith, NoBlank-nil, NoForm-nil), tt)
reads (blank {rest = rest} {ps = ps} c s h) from whole front e w =
    let b = encode_utf8 c in
    reads_blank from whole b rest (lexemes_among ps) (b, refl, inl (c, s, refl))
    (reads h (from + length b) whole (front ++ b) (omega (arith, length-append front b))
    (w ∙ sym (append_assoc front b rest)))
reads (note {rest = rest} {ps = ps} line i t h) from whole front e w =
    let b = 47 ∷ 47 ∷ line in
    reads_blank from whole b rest (lexemes_among ps) (b, refl, inr (line, refl, i, t))
    (reads h (from + length b) whole (front ++ b) (omega (arith, length-append front b))
    (w ∙ sym (append_assoc front b rest)))
reads (lexeme {rest = rest} {ps = ps} x i h) from whole front e w =
    reads_lexeme from whole front rest x (lexemes_among ps) e w i
    (reads h (from + length x.text) whole (front ++ x.text) (omega (arith, length-append front x.text))
    (w ∙ sym (append_assoc front x.text rest)))

pub pieces_are_read : (text : List ℕ) (ps : List SourcePiece) → IsPieces text ps → HasLexemes text (lexemes_among ps)
pieces_are_read text ps h =
    let r = reads h 0 text [] refl refl in
    record {
      tokens = r.0;
      scans = subst (λ at. Scans text r.0 at) (omega arith) r.1;
      spells = r.2;
    }

-- some pieces that have these kinds
abbrev Some_pieces : Bool → List ℕ → List TokenKind → Type 0
Some_pieces near rest ks = (ps : List SourcePiece) × HasPieces near rest ps × (kinds_among ps ≡ ks)

past_skips : {rest here : List ℕ} → Skips rest here → (ks : List TokenKind) → ((near : Bool) → Some_pieces near here ks)
    → (near : Bool) → Some_pieces near rest ks
past_skips K.none ks f near = f near
past_skips (K.more {after = after} (b, e, inl s) h) ks f near =
    let r = past_skips h ks f (near && not (ends_line s.0)) in
    let whole : encode_utf8 s.0 ++ after ≡ _ = ap (λ x. x ++ after) (sym s.2) ∙ sym e in
    (r.0, subst (λ t. HasPieces near t r.0) whole (blank s.0 s.1 r.1), r.2)
past_skips (K.more {after = after} (b, e, inr s) h) ks f near =
    let r = past_skips h ks f false in
    let whole : 47 ∷ 47 ∷ (s.0 ++ after) ≡ _ = ap (λ x. x ++ after) (sym s.1) ∙ sym e in
    (comment near s.0 ∷ r.0, subst (λ t. HasPieces near t (comment near s.0 ∷ r.0)) whole (note s.0 s.2 s.3 r.1), r.2)

nil_of : (here : List ℕ) → length here ≡ 0 → here ≡ []
nil_of [] e = refl
nil_of (b ∷ bs) e = absurd (omega (arith, e))

at_token : (here : List ℕ) (k : TokenKind) (n : ℕ) (ks : List TokenKind) → IsLongest here k n
    → ((near : Bool) → Some_pieces near (drop n here) ks) → (near : Bool) → Some_pieces near here (k ∷ ks)
at_token here k n ks i f near =
    let r = f true in
    let whole : take n here ++ drop n here ≡ here = take-append-drop n here in
    let size : length (take n here) ≡ n = length-take-le n here i.in_range in
    let x : Lexeme = record { kind = k; text = take n here } in
    let long : IsLongest (x.text ++ drop n here) k (length x.text) =
    subst (λ m. IsLongest (x.text ++ drop n here) k m) (sym size) (subst (λ t. IsLongest t k n) (sym whole) i) in
    let all : HasPieces near (x.text ++ drop n here) (token x ∷ r.0) = lexeme x long r.1 in
    (token x ∷ r.0, subst (λ t. HasPieces near t (token x ∷ r.0)) whole all, ap (λ l. k ∷ l) r.2)

pieces_from : (from at : ℕ) (rest : List ℕ) (ts : List Token) → at ≡ from + length rest → ScansFrom from rest ts at
    → (near : Bool) → Some_pieces near rest (T.kinds_of ts)
pieces_from from at rest [] e s =
    let none_left : s.0 ≡ [] = nil_of s.0 (omega (arith, s.2, e)) in
    past_skips s.1 [] (λ near. ([], subst (λ t. HasPieces near t []) (sym none_left) none, refl))
pieces_from from at rest (t ∷ ts) e s =
    let n = s.2 in
    let here : at ≡ t.loc.end + length (drop s.1 s.0) =
    omega (
      arith,
      e,
      n.start,
      n.stop,
      n.token.in_range,
      length-append (take s.1 s.0) (drop s.1 s.0),
      ap length (take-append-drop s.1 s.0),
      length-take-le s.1 s.0 n.token.in_range,
    ) in
    past_skips n.skips (t.kind ∷ T.kinds_of ts)
    (at_token s.0 t.kind s.1 (T.kinds_of ts) n.token (pieces_from t.loc.end at (drop s.1 s.0) ts here s.3))

pub scanned_has_pieces : (text : List ℕ) (ts : List Token) → Scans text ts (length text)
    → (ps : List SourcePiece) × IsPieces text ps × (kinds_among ps ≡ T.kinds_of ts)
scanned_has_pieces text ts s = pieces_from 0 (length text) text ts (omega arith) s false
