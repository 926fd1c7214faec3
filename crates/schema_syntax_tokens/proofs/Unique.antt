-- A text has one list of tokens.
use Rattle.std.proofs.Common.{◌≡◌, ℕ, zero, suc, ◌<◌, Bool, true, not, ◌==◌, ◌||◌, ◌&&◌, List, [], ◌∷◌, ◌++◌, length}
use Rattle.std.proofs.Common.{take, drop, Some, refl, sym, ap, ◌∙◌, subst, inl, inr, arith, nat_lt}
use Rattle.std.specs.List.{All}
use Rattle.std.specs.Char.{encode_utf8, is_whitespace}
use Rattle.std.proofs.lemmas.List.Elements.{All-head, All-tail}
use Rattle.std.proofs.lemmas.Bool.{cases_eq, cases_Bool, and_parts, agree_below_at, eq-eqb}
use Rattle.std.proofs.lemmas.Str.{encode_same, char_from_byte}
use Rattle.cedar_data.specs.Words.{is_word_start}
use Rattle.cedar_data.proofs.Ascii.{start_ascii}
use Rattle.schema_syntax_grammar.specs.declared.token_kind.TokenKind.{TokenKind}
use Rattle.schema_syntax_grammar.specs.declared.token_kind.TokenKind.TheVariants.{StringLit}
use Rattle.schema_syntax_tokens.specs.declared.token.Token.{Token}
use Rattle.schema_syntax_tokens.specs.Forms.{word_kind, IsForm}
use Rattle.schema_syntax_tokens.specs.Scans.{IsInLine, EndsLine, IsBlank, NoBlank, Skips, IsLongest, ScansFrom, Scans}
use Rattle.schema_syntax_tokens.specs.Scans.Skips.{none, more}
use Rattle.schema_syntax_tokens.proofs.Longest.{may_be_mark, mark_start, mark_no_word, mark_no_quote, form_mark}
use Rattle.schema_syntax_tokens.proofs.Longest.{no_form_nil}
use Rattle.schema_syntax_tokens.proofs.Ends.{mark_ascii}

-- a comment's line ends where the first line end is
same_line : (xs ys us vs : List ℕ) → All IsInLine xs → All IsInLine ys → EndsLine us → EndsLine vs
    → xs ++ us ≡ ys ++ vs → us ≡ vs
same_line [] [] us vs h k s t e = e
same_line [] (y ∷ ys) [] vs h k s t e = cc
same_line [] (y ∷ ys) (u ∷ us) vs h k (inl s) t e =
    let f : u ≡ y = cc in absurd ((All-head IsInLine y ys k).0 (sym f ∙ s))
same_line [] (y ∷ ys) (u ∷ us) vs h k (inr s) t e =
    let f : u ≡ y = cc in absurd ((All-head IsInLine y ys k).1 (sym f ∙ s))
same_line (x ∷ xs) [] us [] h k s t e = cc
same_line (x ∷ xs) [] us (v ∷ vs) h k s (inl t) e = let f : x ≡ v = cc in absurd ((All-head IsInLine x xs h).0 (f ∙ t))
same_line (x ∷ xs) [] us (v ∷ vs) h k s (inr t) e = let f : x ≡ v = cc in absurd ((All-head IsInLine x xs h).1 (f ∙ t))
same_line (x ∷ xs) (y ∷ ys) us vs h k s t e =
    same_line xs ys us vs (All-tail IsInLine x xs h) (All-tail IsInLine y ys k) s t cc

-- a space does not begin with `/`
space_no_slash : (c : ℕ) (us vs : List ℕ) → is_whitespace c ≡ true → encode_utf8 c ++ us ≡ 47 ∷ vs → ⊥
space_no_slash c us vs w e =
    let slash : c ≡ 47 = char_from_byte (47 ∷ vs) us c (sym e) (omega arith) (omega arith) in
    let f : is_whitespace 47 ≡ true = ap is_whitespace (sym slash) ∙ w in cc

-- the first blank is one
same_blank : (b d us vs : List ℕ) → IsBlank b us → IsBlank d vs → b ++ us ≡ d ++ vs → us ≡ vs
same_blank b d us vs (inl s) (inl t) e =
    (encode_same s.0 t.0 us vs (ap (λ x. x ++ us) (sym s.2) ∙ (e ∙ ap (λ x. x ++ vs) t.2))).1
same_blank b d us vs (inl s) (inr t) e =
    absurd (space_no_slash s.0 us (47 ∷ (t.0 ++ vs)) s.1 (ap (λ x. x ++ us) (sym s.2) ∙ (e ∙ ap (λ x. x ++ vs) t.1)))
same_blank b d us vs (inr s) (inl t) e =
    absurd (space_no_slash t.0 vs (47 ∷ (s.0 ++ us)) t.1
    (ap (λ x. x ++ vs) (sym t.2) ∙ (sym e ∙ ap (λ x. x ++ us) s.1)))
same_blank b d us vs (inr s) (inr t) e =
    let g : 47 ∷ 47 ∷ (s.0 ++ us) ≡ 47 ∷ 47 ∷ (t.0 ++ vs) = ap (λ x. x ++ us) (sym s.1) ∙ (e ∙ ap (λ x. x ++ vs) t.1) in
    same_line s.0 t.0 us vs s.2 t.2 s.3 t.3 cc

-- blanks have one end
one_end : {rest a b : List ℕ} → Skips rest a → Skips rest b → NoBlank a → NoBlank b → a ≡ b
one_end none none n m = refl
one_end none (more q t) n m = absurd (n q.0 _ q.1 q.2)
one_end (more p s) none n m = absurd (m p.0 _ p.1 p.2)
one_end (more {after = x} p s) (more {after = y} {end = b} q t) n m =
    let e : x ≡ y = same_blank p.0 q.0 x y p.2 q.2 (sym p.1 ∙ q.1) in
    one_end s (subst (λ r. Skips r b) (sym e) t) n m

-- what the first byte of a token is not
no_blank_byte : ℕ → Bool
no_blank_byte b = not (is_word_start b) || (not (b == 47) && not (is_whitespace b))

start_no_blank : (b : ℕ) → is_word_start b ≡ true → (not (b == 47) && not (is_whitespace b)) ≡ true
unfolding no_blank_byte
start_no_blank b h =
    sym (ap (λ t. not t || (not (b == 47) && not (is_whitespace b))) h)
    ∙ agree_below_at no_blank_byte (λ _. true) 128 b refl (start_ascii b h)

mark_no_blank : (b : ℕ) → may_be_mark b ≡ true → (not (b == 47) && not (is_whitespace b)) ≡ true
mark_no_blank b h = (and_parts _ (nat_lt b 128) (and_parts (not (is_word_start b) && not (b == 34)) _ h).1).0

form_start : (b : ℕ) (bs : List ℕ) (k : TokenKind) → IsForm (b ∷ bs) k
    → (b < 128) × ((not (b == 47) && not (is_whitespace b)) ≡ true)
form_start b bs k (inl h) = (start_ascii b h.0.0, start_no_blank b h.0.0)
form_start b bs k (inr (inl h)) = let m = mark_start b bs k h in (mark_ascii b m, mark_no_blank b m)
form_start b bs k (inr (inr h)) =
    let g : b ∷ bs ≡ 34 ∷ (h.0.0 ++ 34 ∷ []) = h.0.2 in
    let e : b ≡ 34 = cc in
    (omega arith, ap (λ x. not (x == 47) && not (is_whitespace x)) e)

start_and_blank : (b : ℕ) (bs blank after : List ℕ) → b < 128 → (not (b == 47) && not (is_whitespace b)) ≡ true
    → b ∷ bs ≡ blank ++ after → IsBlank blank after → ⊥
start_and_blank b bs blank after l h e (inl s) =
    let c : s.0 ≡ b = char_from_byte (b ∷ bs) after s.0 (e ∙ ap (λ t. t ++ after) s.2) l (omega arith) in
    let w : not (is_whitespace b) ≡ true = (and_parts (not (b == 47)) (not (is_whitespace b)) h).1 in
    let f : not true ≡ true = ap not (sym (ap is_whitespace (sym c) ∙ s.1)) ∙ w in cc
start_and_blank b bs blank after l h e (inr s) =
    let g : b ∷ bs ≡ 47 ∷ 47 ∷ (s.0 ++ after) = e ∙ ap (λ t. t ++ after) s.1 in
    let c : b ≡ 47 = cc in
    let w : not (b == 47) ≡ true = (and_parts (not (b == 47)) (not (is_whitespace b)) h).0 in
    let f : not true ≡ true = ap not (sym (eq-eqb b 47 c)) ∙ w in cc

-- no blank begins where a token does
token_no_blank : (rest : List ℕ) (k : TokenKind) (n : ℕ) → IsLongest rest k n → NoBlank rest
token_no_blank [] k zero h b after e i = no_form_nil k h.form
token_no_blank [] k (suc n) h b after e i = no_form_nil k h.form
token_no_blank (x ∷ xs) k zero h b after e i = no_form_nil k h.form
token_no_blank (x ∷ xs) k (suc n) h b after e i =
    let s = form_start x (take n xs) k h.form in start_and_blank x xs b after s.0 s.1 e i

-- a text has one kind
kind_word : (b : ℕ) (bs : List ℕ) (k : TokenKind) → is_word_start b ≡ true → IsForm (b ∷ bs) k
    → k ≡ word_kind (b ∷ bs)
kind_word b bs k w (inl h) = h.1
kind_word b bs k w (inr (inl h)) = absurd (mark_no_word b (mark_start b bs k h) w)
kind_word b bs k w (inr (inr h)) =
    let g : b ∷ bs ≡ 34 ∷ (h.0.0 ++ 34 ∷ []) = h.0.2 in
    let e : b ≡ 34 = cc in
    let f : is_word_start 34 ≡ true = ap is_word_start (sym e) ∙ w in cc

kind_string : (b : ℕ) (bs : List ℕ) (k : TokenKind) → b ≡ 34 → IsForm (b ∷ bs) k → k ≡ StringLit
kind_string b bs k e (inl h) = let f : is_word_start 34 ≡ true = ap is_word_start (sym e) ∙ h.0.0 in cc
kind_string b bs k e (inr (inl h)) = absurd (mark_no_quote b (mark_start b bs k h) e)
kind_string b bs k e (inr (inr h)) = h.1

one_kind : (w : List ℕ) (k l : TokenKind) → IsForm w k → IsForm w l → k ≡ l
one_kind [] k l h i = absurd (no_form_nil k h)
one_kind (b ∷ bs) k l h i =
    elim (cases_Bool (is_word_start b)) [
      | inl w ↦ kind_word b bs k w h ∙ sym (kind_word b bs l w i)
      | inr w ↦
          elim (cases_eq b 34) [
            | inl e ↦ kind_string b bs k e h ∙ sym (kind_string b bs l e i)
            | inr n ↦ let m : Some k ≡ Some l = sym (form_mark b bs k w n h) ∙ form_mark b bs l w n i in cc
          ]
    ]

-- a text has one longest token
one_token : (rest : List ℕ) (k l : TokenKind) (n m : ℕ) → IsLongest rest k n → IsLongest rest l m → (k ≡ l) × (n ≡ m)
one_token rest k l n m h i =
    let len : n ≡ m = omega (arith, h.longest m l i.in_range i.form, i.longest n k h.in_range h.form) in
    (one_kind (take n rest) k l h.form (subst (λ j. IsForm (take j rest) l) (sym len) i.form), len)

same_token : (t u : Token) → t.kind ≡ u.kind → t.loc.start ≡ u.loc.start → t.loc.end ≡ u.loc.end → t ≡ u
same_token t u e f g = λ i. record { kind = e i; loc = record { start = f i; end = g i } }

one_scan_from : (from : ℕ) (rest : List ℕ) (ts us : List Token) (at bt : ℕ) → ScansFrom from rest ts at
    → ScansFrom from rest us bt → (ts ≡ us) × (at ≡ bt)
one_scan_from from rest [] [] at bt h k =
    let same : h.0 ≡ k.0 = one_end h.1 k.1 h.3 k.3 in
    (refl, omega (arith, h.2, k.2, ap length same))
one_scan_from from rest [] (u ∷ us) at bt h k =
    let there = k.2.token in
    let same : h.0 ≡ k.0 = one_end h.1 k.2.skips h.3 (token_no_blank k.0 u.kind k.1 there) in
    absurd (h.4 k.1 u.kind (subst (λ r. IsForm (take k.1 r) u.kind) (sym same) there.form))
one_scan_from from rest (t ∷ ts) [] at bt h k =
    let here = h.2.token in
    let same : k.0 ≡ h.0 = one_end k.1 h.2.skips k.3 (token_no_blank h.0 t.kind h.1 here) in
    absurd (k.4 h.1 t.kind (subst (λ r. IsForm (take h.1 r) t.kind) (sym same) here.form))
one_scan_from from rest (t ∷ ts) (u ∷ us) at bt h k =
    let here = h.2.token in
    let there = k.2.token in
    let same : h.0 ≡ k.0 = one_end h.2.skips k.2.skips (token_no_blank h.0 t.kind h.1 here)
    (token_no_blank k.0 u.kind k.1 there) in
    let token = one_token k.0 t.kind u.kind h.1 k.1 (subst (λ r. IsLongest r t.kind h.1) same here) there in
    let start : t.loc.start ≡ u.loc.start = omega (arith, h.2.start, k.2.start, ap length same) in
    let stop : t.loc.end ≡ u.loc.end = omega (arith, h.2.stop, k.2.stop, token.1) in
    let behind : ScansFrom u.loc.end (drop k.1 k.0) ts at =
    subst (λ n. ScansFrom n (drop k.1 k.0) ts at) stop
    (subst (λ n. ScansFrom t.loc.end (drop n k.0) ts at) token.1
    (subst (λ r. ScansFrom t.loc.end (drop h.1 r) ts at) same h.3)) in
    let tail = one_scan_from u.loc.end (drop k.1 k.0) ts us at bt behind k.3 in
    let head : t ≡ u = same_token t u token.0 start stop in
    ((λ i. head i ∷ tail.0 i), tail.1)

pub one_scan : (text : List ℕ) (ts us : List Token) (at bt : ℕ) → Scans text ts at → Scans text us bt
    → (ts ≡ us) × (at ≡ bt)
one_scan text ts us at bt h k = one_scan_from 0 text ts us at bt h k
