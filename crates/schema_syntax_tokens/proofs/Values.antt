-- A body has one value, or one first bad escape.
use Rattle.std.proofs.Common.{◌≡◌, ◌≢◌, ℕ, ◌+◌, ◌<◌, List, [], ◌∷◌, ◌++◌, length, take, Some, refl, sym, ap, ◌∙◌, subst}
use Rattle.std.proofs.Common.{inl, inr, arith}
use Rattle.std.specs.List.{prefix_len}
use Rattle.std.specs.Char.{encode_utf8}
use Rattle.std.proofs.lemmas.List.{length-append, append_assoc, append_cancel_left, take_at}
use Rattle.std.proofs.lemmas.Str.{encode_same, char_from_byte, length-encode, len_utf8_bounds}
use Rattle.schema_syntax_tokens.specs.Escapes.{simple_escape, hex_value, digits_of, ArePlaces, is_place, IsEscape}
use Rattle.schema_syntax_tokens.specs.Escapes.{IsPieceFor, Unescapes, NoEscape, BadEscape}
use Rattle.schema_syntax_tokens.proofs.Digits.{prefix_len-places}

-- places before a brace are one
same_places : (xs ys us vs : List ℕ) → ArePlaces xs → ArePlaces ys → xs ++ 125 ∷ us ≡ ys ++ 125 ∷ vs
    → (xs ≡ ys) × (us ≡ vs)
same_places xs ys us vs h k e =
    let len : length xs ≡ length ys = sym (prefix_len-places xs us h.each)
    ∙ (ap (prefix_len is_place) e ∙ prefix_len-places ys vs k.each) in
    let fronts : xs ≡ ys = sym (take_at xs (125 ∷ us) (length ys) len)
    ∙ (ap (λ t. take (length ys) t) e ∙ take_at ys (125 ∷ vs) (length ys) refl) in
    let rests : 125 ∷ us ≡ 125 ∷ vs = append_cancel_left ys (125 ∷ us) (125 ∷ vs)
    (ap (λ t. t ++ 125 ∷ us) (sym fronts) ∙ e) in
    (fronts, cc)

-- two escapes that begin the same bytes are one
same_escapes : (e f us vs : List ℕ) (c d : ℕ) → IsEscape e c → IsEscape f d → e ++ us ≡ f ++ vs → (c ≡ d) × (us ≡ vs)
same_escapes e f us vs c d (inl s) (inl t) h =
    let g : 92 ∷ s.0 ∷ us ≡ 92 ∷ t.0 ∷ vs = ap (λ x. x ++ us) (sym s.1) ∙ (h ∙ ap (λ x. x ++ vs) t.1) in
    let byte : s.0 ≡ t.0 = cc in
    let same : Some c ≡ Some d = sym s.2 ∙ (ap simple_escape byte ∙ t.2) in
    (cc, cc)
same_escapes e f us vs c d (inl s) (inr (inl t)) h =
    let g : 92 ∷ s.0 ∷ us ≡ 92 ∷ 120 ∷ t.0 ∷ t.1 ∷ vs = ap (λ x. x ++ us) (sym s.1) ∙ (h ∙ ap (λ x. x ++ vs) t.2) in
    let byte : s.0 ≡ 120 = cc in
    let none : simple_escape 120 ≡ Some c = ap simple_escape (sym byte) ∙ s.2 in cc
same_escapes e f us vs c d (inl s) (inr (inr t)) h =
    let g : 92 ∷ s.0 ∷ us ≡ 92 ∷ 117 ∷ 123 ∷ ((t.0 ++ 125 ∷ []) ++ vs) = ap (λ x. x ++ us) (sym s.1)
    ∙ (h ∙ ap (λ x. x ++ vs) t.1) in
    let byte : s.0 ≡ 117 = cc in
    let none : simple_escape 117 ≡ Some c = ap simple_escape (sym byte) ∙ s.2 in cc
same_escapes e f us vs c d (inr (inl s)) (inl t) h =
    let g : 92 ∷ 120 ∷ s.0 ∷ s.1 ∷ us ≡ 92 ∷ t.0 ∷ vs = ap (λ x. x ++ us) (sym s.2) ∙ (h ∙ ap (λ x. x ++ vs) t.1) in
    let byte : t.0 ≡ 120 = cc in
    let none : simple_escape 120 ≡ Some d = ap simple_escape (sym byte) ∙ t.2 in cc
same_escapes e f us vs c d (inr (inl s)) (inr (inl t)) h =
    let g : 92 ∷ 120 ∷ s.0 ∷ s.1 ∷ us ≡ 92 ∷ 120 ∷ t.0 ∷ t.1 ∷ vs = ap (λ x. x ++ us) (sym s.2)
    ∙ (h ∙ ap (λ x. x ++ vs) t.2) in
    let first : s.0 ≡ t.0 = cc in
    let second : s.1 ≡ t.1 = cc in
    (s.5 ∙ ((λ i. hex_value 0 (first i ∷ second i ∷ [])) ∙ sym t.5), cc)
same_escapes e f us vs c d (inr (inl s)) (inr (inr t)) h =
    let g : 92 ∷ 120 ∷ s.0 ∷ s.1 ∷ us ≡ 92 ∷ 117 ∷ 123 ∷ ((t.0 ++ 125 ∷ []) ++ vs) = ap (λ x. x ++ us) (sym s.2)
    ∙ (h ∙ ap (λ x. x ++ vs) t.1) in
    let byte : ◌≡◌ {A = ℕ} 120 117 = cc in absurd (omega arith)
same_escapes e f us vs c d (inr (inr s)) (inl t) h =
    let g : 92 ∷ 117 ∷ 123 ∷ ((s.0 ++ 125 ∷ []) ++ us) ≡ 92 ∷ t.0 ∷ vs = ap (λ x. x ++ us) (sym s.1)
    ∙ (h ∙ ap (λ x. x ++ vs) t.1) in
    let byte : t.0 ≡ 117 = cc in
    let none : simple_escape 117 ≡ Some d = ap simple_escape (sym byte) ∙ t.2 in cc
same_escapes e f us vs c d (inr (inr s)) (inr (inl t)) h =
    let g : 92 ∷ 117 ∷ 123 ∷ ((s.0 ++ 125 ∷ []) ++ us) ≡ 92 ∷ 120 ∷ t.0 ∷ t.1 ∷ vs = ap (λ x. x ++ us) (sym s.1)
    ∙ (h ∙ ap (λ x. x ++ vs) t.2) in
    let byte : ◌≡◌ {A = ℕ} 117 120 = cc in absurd (omega arith)
same_escapes e f us vs c d (inr (inr s)) (inr (inr t)) h =
    let g : 92 ∷ 117 ∷ 123 ∷ ((s.0 ++ 125 ∷ []) ++ us)
    ≡ 92 ∷ 117 ∷ 123 ∷ ((t.0 ++ 125 ∷ []) ++ vs) = ap (λ x. x ++ us) (sym s.1) ∙ (h ∙ ap (λ x. x ++ vs) t.1) in
    let behind : (s.0 ++ 125 ∷ []) ++ us ≡ (t.0 ++ 125 ∷ []) ++ vs = cc in
    let cut : s.0 ++ 125 ∷ us ≡ t.0 ++ 125 ∷ vs = sym (append_assoc s.0 (125 ∷ []) us)
    ∙ (behind ∙ append_assoc t.0 (125 ∷ []) vs) in
    let same = same_places s.0 t.0 us vs s.2 t.2 cut in
    (s.3 ∙ (ap (λ x. hex_value 0 (digits_of x)) same.0 ∙ sym t.3), same.1)

-- an escape begins with a backslash
escape_start : (e : List ℕ) (c : ℕ) → IsEscape e c → (after : List ℕ) × (e ≡ 92 ∷ after)
escape_start e c (inl s) = (s.0 ∷ [], s.1)
escape_start e c (inr (inl s)) = (120 ∷ s.0 ∷ s.1 ∷ [], s.2)
escape_start e c (inr (inr s)) = (117 ∷ 123 ∷ (s.0 ++ 125 ∷ []), s.1)

-- a character whose bytes begin with a backslash is one
pub backslash_is : (c : ℕ) (us vs : List ℕ) → encode_utf8 c ++ us ≡ 92 ∷ vs → c ≡ 92
backslash_is c us vs e = char_from_byte (92 ∷ vs) us c (sym e) (omega arith) (omega arith)

char_and_escape : (f us vs : List ℕ) (c d : ℕ) → c ≢ 92 → IsEscape f d → encode_utf8 c ++ us ≡ f ++ vs → ⊥
char_and_escape f us vs c d n k e =
    let s = escape_start f d k in
    n (backslash_is c us (s.0 ++ vs) (e ∙ ap (λ t. t ++ vs) s.1))

-- two pieces that begin the same bytes are one
pub same_piece : (p q us vs : List ℕ) (c d : ℕ) → IsPieceFor p c → IsPieceFor q d → p ++ us ≡ q ++ vs
    → (c ≡ d) × (us ≡ vs)
same_piece p q us vs c d (inl s) (inl t) e =
    encode_same c d us vs (ap (λ x. x ++ us) (sym s.0) ∙ (e ∙ ap (λ x. x ++ vs) t.0))
same_piece p q us vs c d (inl s) (inr t) e =
    absurd (char_and_escape q us vs c d s.1 t (ap (λ x. x ++ us) (sym s.0) ∙ e))
same_piece p q us vs c d (inr s) (inl t) e =
    absurd (char_and_escape p vs us d c t.1 s (ap (λ x. x ++ vs) (sym t.0) ∙ sym e))
same_piece p q us vs c d (inr s) (inr t) e = same_escapes p q us vs c d s t e

-- a piece is no empty text
pub piece_some : (p : List ℕ) (c : ℕ) → IsPieceFor p c → 0 < length p
piece_some p c (inl s) = omega (arith, ap length s.0, length-encode c, (len_utf8_bounds c).0)
piece_some p c (inr s) = let t = escape_start p c s in omega (arith, ap length t.1)

pub some_and_none : (p us : List ℕ) (c : ℕ) → IsPieceFor p c → [] ≡ p ++ us → ⊥
some_and_none p us c s e = let l : 0 ≡ length p + length us = ap length e
    ∙ length-append p us in omega (arith, piece_some p c s)

pub one_value : (body cs ds : List ℕ) → Unescapes body cs → Unescapes body ds → cs ≡ ds
one_value body [] [] h k = refl
one_value body [] (d ∷ ds) h k = absurd (some_and_none k.0 k.1 d k.3 (sym h ∙ k.2))
one_value body (c ∷ cs) [] h k = absurd (some_and_none h.0 h.1 c h.3 (sym k ∙ h.2))
one_value body (c ∷ cs) (d ∷ ds) h k =
    let same = same_piece h.0 k.0 h.1 k.1 c d h.3 k.3 (sym h.2 ∙ k.2) in
    let more : cs ≡ ds = one_value h.1 cs ds h.4 (subst (λ t. Unescapes t ds) (sym same.1) k.4) in
    λ i. same.0 i ∷ more i

-- no piece stands where a backslash has no lawful escape
no_piece : (p us rest : List ℕ) (c : ℕ) → IsPieceFor p c → p ++ us ≡ 92 ∷ rest → NoEscape (92 ∷ rest) → ⊥
no_piece p us rest c (inl s) e n = s.1 (backslash_is c us rest (ap (λ t. t ++ us) (sym s.0) ∙ e))
no_piece p us rest c (inr s) e n = n p us c (sym e) s

stuck : (front value rest cs : List ℕ) → Unescapes front value → Unescapes (front ++ 92 ∷ rest) cs
    → NoEscape (92 ∷ rest) → ⊥
stuck front [] rest [] h k n =
    let e : front ++ 92 ∷ rest ≡ [] = k in let f : [] ++ 92 ∷ rest ≡ [] = ap (λ t. t ++ 92 ∷ rest) (sym h) ∙ e in cc
stuck front [] rest (c ∷ cs) h k n = no_piece k.0 k.1 rest c k.3 (sym k.2 ∙ ap (λ t. t ++ 92 ∷ rest) h) n
stuck front (v ∷ vs) rest [] h k n =
    some_and_none h.0 (h.1 ++ 92 ∷ rest) v h.3
    (sym k ∙ (ap (λ t. t ++ 92 ∷ rest) h.2 ∙ append_assoc h.0 h.1 (92 ∷ rest)))
stuck front (v ∷ vs) rest (c ∷ cs) h k n =
    let same = same_piece h.0 k.0 (h.1 ++ 92 ∷ rest) k.1 v c h.3 k.3
    (sym (append_assoc h.0 h.1 (92 ∷ rest)) ∙ (ap (λ t. t ++ 92 ∷ rest) (sym h.2) ∙ k.2)) in
    stuck h.1 vs rest cs h.4 (subst (λ t. Unescapes t cs) (sym same.1) k.4) n

pub value_or_bad : (body cs : List ℕ) (at : ℕ) → Unescapes body cs → BadEscape body at → ⊥
value_or_bad body cs at h b = stuck b.front b.value b.rest cs b.unescapes
    (subst (λ t. Unescapes t cs) b.split h) b.unlawful

one_front : (xs ys vs ws us ts : List ℕ) → Unescapes xs vs → Unescapes ys ws → NoEscape (92 ∷ us) → NoEscape (92 ∷ ts)
    → xs ++ 92 ∷ us ≡ ys ++ 92 ∷ ts → length xs ≡ length ys
one_front xs ys [] [] us ts h k n m e = ap length h ∙ ap length (sym k)
one_front xs ys [] (w ∷ ws) us ts h k n m e =
    absurd (no_piece k.0 (k.1 ++ 92 ∷ ts) us w k.3
    (sym (append_assoc k.0 k.1 (92 ∷ ts)) ∙ (ap (λ t. t ++ 92 ∷ ts) (sym k.2) ∙ (sym e ∙ ap (λ t. t ++ 92 ∷ us) h))) n)
one_front xs ys (v ∷ vs) [] us ts h k n m e =
    absurd (no_piece h.0 (h.1 ++ 92 ∷ us) ts v h.3
    (sym (append_assoc h.0 h.1 (92 ∷ us)) ∙ (ap (λ t. t ++ 92 ∷ us) (sym h.2) ∙ (e ∙ ap (λ t. t ++ 92 ∷ ts) k))) m)
one_front xs ys (v ∷ vs) (w ∷ ws) us ts h k n m e =
    let whole : h.0 ++ (h.1 ++ 92 ∷ us) ≡ k.0 ++ (k.1 ++ 92 ∷ ts) =
    sym (append_assoc h.0 h.1 (92 ∷ us))
    ∙ (ap (λ t. t ++ 92 ∷ us) (sym h.2) ∙ (e ∙ (ap (λ t. t ++ 92 ∷ ts) k.2 ∙ append_assoc k.0 k.1 (92 ∷ ts)))) in
    let same : h.1 ++ 92 ∷ us ≡ k.1
    ++ 92 ∷ ts = (same_piece h.0 k.0 (h.1 ++ 92 ∷ us) (k.1 ++ 92 ∷ ts) v w h.3 k.3 whole).1 in
    let more : length h.1 ≡ length k.1 = one_front h.1 k.1 vs ws us ts h.4 k.4 n m same in
    omega (
      arith,
      ap length whole,
      length-append h.0 (h.1 ++ 92 ∷ us),
      length-append k.0 (k.1 ++ 92 ∷ ts),
      ap length
          same,
      ap length h.2,
      ap length k.2,
      length-append h.0 h.1,
      length-append k.0 k.1,
    )

pub one_bad : (body : List ℕ) (at bt : ℕ) → BadEscape body at → BadEscape body bt → at ≡ bt
one_bad body at bt a b =
    a.place ∙ (one_front a.front b.front a.value b.value a.rest b.rest a.unescapes b.unescapes a.unlawful b.unlawful
    (sym a.split ∙ b.split) ∙ sym b.place)
