-- A text has one list of pieces, and of empty lines before them.
use Rattle.std.proofs.Common.{◌≡◌, ℕ, ◌<◌, Bool, true, not, ◌&&◌, ◌||◌, ◌==◌, List, [], ◌∷◌, ◌++◌}
use Rattle.std.proofs.Common.{length, take, drop, Some, refl, sym, ap, ◌∙◌, subst, inl, inr, arith, nat_lt}
use Rattle.std.specs.List.{All}
use Rattle.std.specs.Char.{encode_utf8, is_whitespace}
use Rattle.std.proofs.lemmas.List.{take_at, drop_at, length-append}
use Rattle.std.proofs.lemmas.List.Elements.{All-head, All-tail}
use Rattle.std.proofs.lemmas.Bool.{and_parts, cases_eq, cases_Bool, agree_below_at, eq-eqb}
use Rattle.std.proofs.lemmas.Str.{encode_same, char_from_byte, length-encode, len_utf8_bounds}
use Rattle.cedar_data.specs.Words.{is_word_start}
use Rattle.cedar_data.proofs.Ascii.{start_ascii}
use Rattle.schema_syntax_grammar.specs.declared.token_kind.TokenKind.{TokenKind}
use Rattle.schema_syntax_grammar.specs.declared.token_kind.TokenKind.TheVariants.{StringLit}
use Rattle.schema_syntax_tokens.specs.Forms.{word_kind, IsForm}
use Rattle.schema_syntax_tokens.specs.Laid.{Lexeme}
use Rattle.schema_syntax_tokens.specs.Scans.{IsInLine, EndsLine, IsLongest}
use Rattle.schema_syntax_tokens.proofs.Ends.{mark_ascii}
use Rattle.schema_syntax_tokens.proofs.Longest.{mark_start, mark_no_word, mark_no_quote, form_mark}
use Rattle.schema_syntax_tokens.proofs.Longest.{no_form_nil}
use Rattle.schema_layout_pieces.specs.declared.context.Feeds.{Feeds}
use Rattle.schema_layout_pieces.specs.declared.context.Feeds.TheVariants.{NoFeed}
use Rattle.schema_layout_pieces.specs.Pieces.{SourcePiece, token, comment, ends_line, HasPieces}
use Rattle.schema_layout_pieces.specs.Pieces as P
use Rattle.schema_layout_pieces.specs.Kept.{fed, Spaced, spaced_by, pieces_in, HasSpaced}
use Rattle.schema_layout_pieces.specs.Kept.HasSpaced.{none, blank, note, lexeme}
use Rattle.schema_layout_pieces.proofs.Sentences.{chosen}

-- a line that has ended is one
pub one_line : (xs ys us vs : List ℕ) → All IsInLine xs → All IsInLine ys → EndsLine us → EndsLine vs
    → xs ++ us ≡ ys ++ vs → (xs ≡ ys) × (us ≡ vs)
one_line [] [] us vs h k s t e = (refl, e)
one_line [] (y ∷ ys) [] vs h k s t e = cc
one_line [] (y ∷ ys) (u ∷ us) vs h k (inl s) t e =
    let f : u ≡ y = cc in absurd ((All-head IsInLine y ys k).0 (sym f ∙ s))
one_line [] (y ∷ ys) (u ∷ us) vs h k (inr s) t e =
    let f : u ≡ y = cc in absurd ((All-head IsInLine y ys k).1 (sym f ∙ s))
one_line (x ∷ xs) [] us [] h k s t e = cc
one_line (x ∷ xs) [] us (v ∷ vs) h k s (inl t) e = let f : x ≡ v = cc in absurd ((All-head IsInLine x xs h).0 (f ∙ t))
one_line (x ∷ xs) [] us (v ∷ vs) h k s (inr t) e = let f : x ≡ v = cc in absurd ((All-head IsInLine x xs h).1 (f ∙ t))
one_line (x ∷ xs) (y ∷ ys) us vs h k s t e =
    let head : x ≡ y = cc in
    let tail = one_line xs ys us vs (All-tail IsInLine x xs h) (All-tail IsInLine y ys k) s t cc in
    ((λ i. head i ∷ tail.0 i), tail.1)

word_start_plain : ℕ → Bool
word_start_plain b = not (is_word_start b) || (not (b == 47) && not (is_whitespace b))

form_start : (b : ℕ) (bs : List ℕ) (k : TokenKind) → IsForm (b ∷ bs) k
    → (b < 128) × ((not (b == 47) && not (is_whitespace b)) ≡ true)
unfolding word_start_plain
form_start b bs k (inl h) =
    let t : word_start_plain b ≡ true = agree_below_at word_start_plain (λ _. true) 128 b refl (start_ascii b h.0.0) in
    (start_ascii b h.0.0, chosen (is_word_start b) (not (b == 47) && not (is_whitespace b)) t h.0.0)
form_start b bs k (inr (inl h)) =
    let m = mark_start b bs k h in
    (mark_ascii b m, (and_parts _ (nat_lt b 128) (and_parts (not (is_word_start b) && not (b == 34)) _ m).1).0)
form_start b bs k (inr (inr h)) =
    let g : b ∷ bs ≡ 34 ∷ (h.0.0 ++ 34 ∷ []) = h.0.2 in
    let e : b ≡ 34 = cc in
    (omega arith, ap (λ x. not (x == 47) && not (is_whitespace x)) e)

pub no_nil : (c : ℕ) (rest : List ℕ) → [] ≡ encode_utf8 c ++ rest → ⊥
no_nil c rest e =
    let n : 0 ≡ length (encode_utf8 c ++ rest) = ap length e in
    omega (arith, n, length-append (encode_utf8 c) rest, length-encode c, (len_utf8_bounds c).0)

pub token_no_nil : (w rest : List ℕ) (k : TokenKind) → IsForm w k → [] ≡ w ++ rest → ⊥
token_no_nil [] rest k f e = no_form_nil k f
token_no_nil (b ∷ bs) rest k f e = cc

pub token_no_blank : (w us vs : List ℕ) (k : TokenKind) (c : ℕ) → IsForm w k → is_whitespace c ≡ true
    → w ++ us ≡ encode_utf8 c ++ vs → ⊥
token_no_blank [] us vs k c f h e = no_form_nil k f
token_no_blank (b ∷ bs) us vs k c f h e =
    let s = form_start b bs k f in
    let same : c ≡ b = char_from_byte (b ∷ (bs ++ us)) vs c e s.0 (omega arith) in
    let w : not (is_whitespace b) ≡ true = (and_parts (not (b == 47)) (not (is_whitespace b)) s.1).1 in
    let g : not true ≡ true = ap not (sym (ap is_whitespace (sym same) ∙ h)) ∙ w in cc

pub token_no_note : (w us vs : List ℕ) (k : TokenKind) → IsForm w k → w ++ us ≡ 47 ∷ vs → ⊥
token_no_note [] us vs k f e = no_form_nil k f
token_no_note (b ∷ bs) us vs k f e =
    let c : b ≡ 47 = cc in
    let w : not (b == 47) ≡ true = (and_parts (not (b == 47)) (not (is_whitespace b)) (form_start b bs k f).1).0 in
    let g : not true ≡ true = ap not (sym (eq-eqb b 47 c)) ∙ w in cc

pub blank_no_note : (c : ℕ) (us vs : List ℕ) → is_whitespace c ≡ true → encode_utf8 c ++ us ≡ 47 ∷ vs → ⊥
blank_no_note c us vs w e =
    let slash : c ≡ 47 = char_from_byte (47 ∷ vs) us c (sym e) (omega arith) (omega arith) in
    let f : is_whitespace 47 ≡ true = ap is_whitespace (sym slash) ∙ w in cc

kind_word : (b : ℕ) (bs : List ℕ) (k : TokenKind) → is_word_start b ≡ true → IsForm (b ∷ bs) k
    → k ≡ word_kind (b ∷ bs)
kind_word b bs k w (inl h) = h.1
kind_word b bs k w (inr (inl h)) = absurd (mark_no_word b (mark_start b bs k h) w)
kind_word b bs k w (inr (inr h)) =
    let g : b ∷ bs ≡ 34 ∷ (h.0.0 ++ 34 ∷ []) = h.0.2 in
    let e : b ≡ 34 = cc in
    let f : is_word_start 34 ≡ true = ap is_word_start (sym e) ∙ w in cc

kind_string : (b : ℕ) (bs : List ℕ) (k : TokenKind) → b ≡ 34 → IsForm (b ∷ bs) k → k ≡ StringLit
kind_string b bs k e (inl h) = let f : is_word_start 34 ≡ true = ap is_word_start (sym e) ∙ h.0.0 in cc
kind_string b bs k e (inr (inl h)) = absurd (mark_no_quote b (mark_start b bs k h) e)
kind_string b bs k e (inr (inr h)) = h.1

one_kind : (w : List ℕ) (k l : TokenKind) → IsForm w k → IsForm w l → k ≡ l
one_kind [] k l h i = absurd (no_form_nil k h)
one_kind (b ∷ bs) k l h i =
    elim (cases_Bool (is_word_start b)) [
      | inl w ↦ kind_word b bs k w h ∙ sym (kind_word b bs l w i)
      | inr w ↦
          elim (cases_eq b 34) [
            | inl e ↦ kind_string b bs k e h ∙ sym (kind_string b bs l e i)
            | inr n ↦ let m : Some k ≡ Some l = sym (form_mark b bs k w n h) ∙ form_mark b bs l w n i in cc
          ]
    ]

pub form_here : (x : Lexeme) (rest : List ℕ) → IsLongest (x.text ++ rest) x.kind (length x.text) → IsForm x.text x.kind
form_here x rest h = subst (λ w. IsForm w x.kind) (take_at x.text rest (length x.text) refl) h.form

-- the token that begins a text is one
pub one_lexeme : (x y : Lexeme) (us vs : List ℕ) → IsLongest (x.text ++ us) x.kind (length x.text)
    → IsLongest (y.text ++ vs) y.kind (length y.text) → x.text ++ us ≡ y.text ++ vs → (x ≡ y) × (us ≡ vs)
one_lexeme x y us vs h k e =
    let moved : IsLongest (x.text ++ us) y.kind (length y.text) =
    subst (λ r. IsLongest r y.kind (length y.text)) (sym e) k in
    let len : length x.text ≡ length y.text =
    omega (
      arith,
      h.longest (length y.text) y.kind moved.in_range moved.form,
      moved.longest (length x.text) x.kind h.in_range h.form,
    ) in
    let text : x.text ≡ y.text =
    sym (take_at x.text us (length x.text) refl)
    ∙ (ap (take (length x.text)) e ∙ take_at y.text vs (length x.text) (sym len)) in
    let kind : x.kind ≡ y.kind =
    one_kind y.text x.kind y.kind (subst (λ w. IsForm w x.kind) text (form_here x us h)) (form_here y vs k) in (
      (λ i. record { kind = kind i; text = text i }),
      sym (drop_at x.text us (length x.text) refl)
          ∙ (ap (drop (length x.text)) e ∙ drop_at y.text vs (length x.text) (sym len)),
    )

pub one_spaced : {near : Bool} {s : Feeds} {r : List ℕ} {ps : List Spaced} → HasSpaced near s r ps
    → {t : List ℕ} {qs : List Spaced} → HasSpaced near s t qs → r ≡ t → ps ≡ qs
one_spaced none none e = refl
one_spaced none (blank {rest = v} d w k) e = absurd (no_nil d v e)
one_spaced none (note line i t k) e = cc
one_spaced none (lexeme {rest = v} y i k) e = absurd (token_no_nil y.text v y.kind (form_here y v i) e)
one_spaced (blank {rest = u} c w h) none e = absurd (no_nil c u (sym e))
one_spaced {near} {s} (blank {rest = u} c w h) (blank {rest = v} {ps = qs} d x k) e =
    let same = encode_same c d u v e in
    one_spaced h (subst (λ b. HasSpaced (near && not (ends_line b)) (fed s b) v qs) (sym same.0) k) same.1
one_spaced (blank {rest = u} c w h) (note {rest = v} line i t k) e = absurd (blank_no_note c u (47 ∷ (line ++ v)) w e)
one_spaced (blank {rest = u} c w h) (lexeme {rest = v} y i k) e =
    absurd (token_no_blank y.text v u y.kind c (form_here y v i) w (sym e))
one_spaced (note line i t h) none e = cc
one_spaced (note {rest = u} line i t h) (blank {rest = v} d w k) e =
    absurd (blank_no_note d v (47 ∷ (line ++ u)) w (sym e))
one_spaced {near} {s} (note {rest = u} line i t h) (note {rest = v} other j z k) e =
    let same = one_line line other u v i j t z cc in
    let tail = one_spaced h k same.1 in
    λ n. spaced_by s (comment near (same.0 n)) ∷ tail n
one_spaced (note {rest = u} line i t h) (lexeme {rest = v} y j k) e =
    absurd (token_no_note y.text v (47 ∷ (line ++ u)) y.kind (form_here y v j) (sym e))
one_spaced (lexeme {rest = u} x i h) none e = absurd (token_no_nil x.text u x.kind (form_here x u i) (sym e))
one_spaced (lexeme {rest = u} x i h) (blank {rest = v} d w k) e =
    absurd (token_no_blank x.text u v x.kind d (form_here x u i) w e)
one_spaced (lexeme {rest = u} x i h) (note {rest = v} line j t k) e =
    absurd (token_no_note x.text u (47 ∷ (line ++ v)) x.kind (form_here x u i) e)
one_spaced {near} {s} (lexeme {rest = u} x i h) (lexeme {rest = v} y j k) e =
    let same = one_lexeme x y u v i j e in
    let tail = one_spaced h k same.1 in
    λ n. spaced_by s (token (same.0 n)) ∷ tail n

-- the pieces with empty lines are pieces
pub unspace : {near : Bool} {s : Feeds} {text : List ℕ} {ps : List Spaced} → HasSpaced near s text ps
    → HasPieces near text (pieces_in ps)
unspace none = P.none
unspace (blank c w h) = P.blank c w (unspace h)
unspace (note line i e h) = P.note line i e (unspace h)
unspace (lexeme x i h) = P.lexeme x i (unspace h)

-- the pieces, with the empty lines among them
abbrev pub Some_spaced : Bool → Feeds → List ℕ → List SourcePiece → Type 0
Some_spaced near s text ps = (qs : List Spaced) × HasSpaced near s text qs × (pieces_in qs ≡ ps)

pub space : {near : Bool} {text : List ℕ} {ps : List SourcePiece} → HasPieces near text ps → (s : Feeds)
    → Some_spaced near s text ps
space P.none s = ([], none, refl)
space (P.blank c w h) s = let r = space h (fed s c) in (r.0, blank c w r.1, r.2)
space {near} (P.note line i e h) s =
    let r = space h NoFeed in
    (spaced_by s (comment near line) ∷ r.0, note line i e r.1, ap (λ l. comment near line ∷ l) r.2)
space (P.lexeme x i h) s =
    let r = space h NoFeed in (spaced_by s (token x) ∷ r.0, lexeme x i r.1, ap (λ l. token x ∷ l) r.2)

pub one_pieces : {near : Bool} {text : List ℕ} {ps qs : List SourcePiece} → HasPieces near text ps
    → HasPieces near text qs → ps ≡ qs
one_pieces h k =
    let a = space h NoFeed in
    let b = space k NoFeed in
    sym a.2 ∙ (ap pieces_in (one_spaced a.1 b.1 refl) ∙ b.2)
