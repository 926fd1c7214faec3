-- The longest token that begins some bytes: the first byte decides its form.
use Rattle.std.proofs.Common.{◌≡◌, ◌≢◌, ℕ, zero, suc, ◌+◌, ◌<◌, ◌≤◌, Bool, true, false, cond, not, ◌&&◌, ◌==◌}
use Rattle.std.proofs.Common.{if◌then◌else◌, List, [], ◌∷◌, ◌++◌, length, take, drop, get_or, Option, Some, None, refl}
use Rattle.std.proofs.Common.{sym, ap, ◌∙◌, subst, inl, inr, arith, nat_lt}
use Rattle.std.specs.List.{AllPass, prefix_len}
use Rattle.std.specs.Char.{is_whitespace}
use Rattle.std.proofs.lemmas.List.{append_assoc, take-append-drop, take_more, drop_more, length-take-le, length-take}
use Rattle.std.proofs.lemmas.List.{length-append, get_or-take}
use Rattle.std.proofs.lemmas.List.Sums.{prefix_len_passes, prefix_len_stops, prefix_len-le-length}
use Rattle.std.proofs.lemmas.Bool.{cases_eq, eq-eqb, ne_eqb, and_parts, cases_lt}
use Rattle.cedar_data.specs.Words.{is_word_start, is_word_part}
use Rattle.cedar_data.proofs.Ascii.{start_part}
use Rattle.schema_syntax_grammar.specs.declared.token_kind.TokenKind.{TokenKind}
use Rattle.schema_syntax_grammar.specs.declared.token_kind.TokenKind.TheVariants.{StringLit, PathSep}
use Rattle.schema_syntax_tokens.specs.Forms.{word_kind, single_mark, mark_kind, IsBody, NoBody, IsBodyEnd, IsForm}
use Rattle.schema_syntax_tokens.specs.Scans.{NoForm, IsLongest}
use Rattle.schema_syntax_tokens.specs.Steps.{StartsWord, StartsString, StartsOther, StartsColons}
use Rattle.schema_syntax_tokens.proofs.Bodies.{same_bodies}

-- what no mark begins with: a letter, `_`, `"`, `/`, a blank, or a byte above 127
abbrev pub may_be_mark : ℕ → Bool
may_be_mark b = (not (is_word_start b) && not (b == 34)) && ((not (b == 47) && not (is_whitespace b)) && nat_lt b 128)

at_mark : (b n : ℕ) (k : TokenKind) (x r : Option TokenKind) → may_be_mark n ≡ true
    → (r ≡ Some k → may_be_mark b ≡ true)
    → (if b == n then x else r) ≡ Some k → may_be_mark b ≡ true
at_mark b n k x r here there h =
    elim (cases_eq b n) [
      | inl e ↦ ap may_be_mark e ∙ here
      | inr ne ↦ there (sym (ap (λ t. cond t x r) (ne_eqb b n ne)) ∙ h)
    ]

-- what a mark of one byte begins with
pub mark_byte : (b : ℕ) (k : TokenKind) → single_mark b ≡ Some k → may_be_mark b ≡ true
mark_byte b k h =
    at_mark b 64 k _ _ refl (at_mark b 44 k _ _ refl
    (at_mark b 59 k _ _ refl (at_mark b 58 k _ _ refl (at_mark b 40 k _ _ refl (at_mark b 41 k _ _ refl
    (at_mark b 123 k _ _ refl (at_mark b 125 k _ _ refl
    (at_mark b 91 k _ _ refl (at_mark b 93 k _ _ refl (at_mark b 60 k _ _ refl (at_mark b 62 k _ _ refl
    (at_mark b 63 k _ _ refl (at_mark b 61 k _ _ refl (λ e. cc)))))))))))))) h

no_colon : (b c : ℕ) (k : TokenKind) → (b ≡ 58 → ⊥) → (if b == 58 && c == 58 then Some PathSep else None) ≡ Some k → ⊥
no_colon b c k n h = let e : None ≡ Some k = sym (ap (λ t. cond (t && c == 58) (Some PathSep) None) (ne_eqb b 58 n))
    ∙ h in cc

no_second_colon : (b c : ℕ) (k : TokenKind) → b ≡ 58 → (c ≡ 58 → ⊥)
    → (if b == 58 && c == 58 then Some PathSep else None) ≡ Some k → ⊥
no_second_colon b c k e n h =
    let f : None ≡ Some k = sym (ap (λ t. cond (t && c == 58) (Some PathSep) None) (eq-eqb b 58 e)
    ∙ ap (λ t. cond t (Some PathSep) None) (ne_eqb c 58 n)) ∙ h in cc

-- a mark of two bytes has two colons
pub two_colons : (b c : ℕ) (k : TokenKind) → mark_kind (b ∷ c ∷ []) ≡ Some k → (b ≡ 58) × (c ≡ 58)
two_colons b c k h =
    elim (cases_eq b 58) [
      | inl e ↦ elim (cases_eq c 58) [ inl f ↦ (e, f) | inr n ↦ absurd (no_second_colon b c k e n h) ]
      | inr n ↦ absurd (no_colon b c k n h)
    ]

-- what any mark begins with
pub mark_start : (b : ℕ) (bs : List ℕ) (k : TokenKind) → mark_kind (b ∷ bs) ≡ Some k → may_be_mark b ≡ true
mark_start b [] k h = mark_byte b k h
mark_start b (c ∷ []) k h = ap may_be_mark (two_colons b c k h).0
mark_start b (c ∷ d ∷ bs) k h = cc

pub mark_no_word : (b : ℕ) → may_be_mark b ≡ true → is_word_start b ≡ true → ⊥
mark_no_word b h w =
    let e : not (is_word_start b) ≡ true =
    (and_parts (not (is_word_start b)) (not (b == 34)) (and_parts (not (is_word_start b) && not (b == 34)) _ h).0).0 in
    let f : not true ≡ true = ap not (sym w) ∙ e in cc

pub mark_no_quote : (b : ℕ) → may_be_mark b ≡ true → b ≡ 34 → ⊥
mark_no_quote b h e = let f : may_be_mark 34 ≡ true = ap may_be_mark (sym e) ∙ h in cc

-- bytes that begin with a letter or `_` have no form but that of a word
pub form_word : (b : ℕ) (bs : List ℕ) (k : TokenKind) → is_word_start b ≡ true → IsForm (b ∷ bs) k
    → AllPass is_word_part bs
form_word b bs k w (inl f) = f.0.1
form_word b bs k w (inr (inl e)) = absurd (mark_no_word b (mark_start b bs k e) w)
form_word b bs k w (inr (inr f)) =
    let e : b ≡ 34 = let g : b ∷ bs ≡ 34 ∷ (f.0.0 ++ 34 ∷ []) = f.0.2 in cc in
    let g : is_word_start 34 ≡ true = ap is_word_start (sym e) ∙ w in cc

-- bytes that begin with a quote have no form but that of a string
pub form_string : (b : ℕ) (bs : List ℕ) (k : TokenKind) → b ≡ 34 → IsForm (b ∷ bs) k
    → (body : List ℕ) × IsBody body × (bs ≡ body ++ 34 ∷ [])
form_string b bs k e (inl f) = let g : is_word_start 34 ≡ true = ap is_word_start (sym e) ∙ f.0.0 in cc
form_string b bs k e (inr (inl f)) = absurd (mark_no_quote b (mark_start b bs k f) e)
form_string b bs k e (inr (inr f)) = let g : b ∷ bs ≡ 34 ∷ (f.0.0 ++ 34 ∷ []) = f.0.2 in (f.0.0, f.0.1, cc)

-- other bytes have no form but that of a mark
pub form_mark : (b : ℕ) (bs : List ℕ) (k : TokenKind) → is_word_start b ≡ false → b ≢ 34 → IsForm (b ∷ bs) k
    → mark_kind (b ∷ bs) ≡ Some k
form_mark b bs k w n (inl f) = let e : false ≡ true = sym w ∙ f.0.0 in cc
form_mark b bs k w n (inr (inl f)) = f
form_mark b bs k w n (inr (inr f)) =
    let g : b ∷ bs ≡ 34 ∷ (f.0.0 ++ 34 ∷ []) = f.0.2 in let e : b ≡ 34 = cc in absurd (n e)

pub no_form_nil : (k : TokenKind) → IsForm [] k → ⊥
no_form_nil k (inl f) = f.0
no_form_nil k (inr (inl f)) = cc
no_form_nil k (inr (inr f)) = let g : [] ≡ 34 ∷ (f.0.0 ++ 34 ∷ []) = f.0.2 in cc

pub NoForm-nil : NoForm []
NoForm-nil zero k f = no_form_nil k f
NoForm-nil (suc m) k f = no_form_nil k f

prefix_word : (b : ℕ) (bs : List ℕ) → is_word_start b ≡ true
    → prefix_len is_word_part (b ∷ bs) ≡ suc (prefix_len is_word_part bs)
prefix_word b bs h = ap (λ t. cond t (1 + prefix_len is_word_part bs) 0) (start_part b h) ∙ omega arith

-- the longest front that passes passes
pub AllPass-prefix : (p : ℕ → Bool) (bs : List ℕ) → AllPass p (take (prefix_len p bs) bs)
AllPass-prefix p bs k d l =
    let m : k < prefix_len p bs = omega (arith, length-take (prefix_len p bs) bs) in
    rw (get_or-take (prefix_len p bs) bs k d m) (prefix_len_passes p bs k d m)

-- no longer front passes
AllPass-le-prefix : (p : ℕ → Bool) (bs : List ℕ) (m : ℕ) → m ≤ length bs → AllPass p (take m bs) → m ≤ prefix_len p bs
AllPass-le-prefix p bs m l h =
    elim (cases_lt (prefix_len p bs) m) [
      | inl q ↦
          let stops : p (get_or bs (prefix_len p bs) 0) ≡ false = prefix_len_stops p bs 0 (omega arith) in
          let passes : p (get_or (take m bs) (prefix_len p bs) 0)
          ≡ true = h (prefix_len p bs) 0 (omega (arith, length-take-le m bs l)) in
          let same : get_or (take m bs) (prefix_len p bs) 0
          ≡ get_or bs (prefix_len p bs) 0 = get_or-take m bs (prefix_len p bs) 0 q in
          let e : false ≡ true = sym stops ∙ (ap p (sym same) ∙ passes) in cc
      | inr q ↦ q
    ]

word_at : (b : ℕ) (bs : List ℕ) (n : ℕ) → is_word_start b ≡ true → n ≡ prefix_len is_word_part bs
    → IsLongest (b ∷ bs) (word_kind (take (suc n) (b ∷ bs))) (suc n)
word_at b bs n w e =
    record {
      in_range = omega (arith, prefix_len-le-length is_word_part bs);
      form = inl ((w, subst (λ m. AllPass is_word_part (take m bs)) (sym e) (AllPass-prefix is_word_part bs)), refl);
      longest = longest_word;
    }
  where
    longest_word : (m : ℕ) (l : TokenKind) → m ≤ length (b ∷ bs) → IsForm (take m (b ∷ bs)) l → m ≤ suc n
    longest_word zero l r f = omega arith
    longest_word (suc m) l r f = omega
        (arith, AllPass-le-prefix is_word_part bs m (omega arith) (form_word b (take m bs) l w f))

-- a word is as long as the letters, digits and `_` go
pub longest_word : (rest : List ℕ) (n : ℕ) → StartsWord rest → n ≡ prefix_len is_word_part rest
    → IsLongest rest (word_kind (take n rest)) n
longest_word [] n w e = absurd w
longest_word (b ∷ bs) n w e =
    subst (λ m. IsLongest (b ∷ bs) (word_kind (take m (b ∷ bs))) m) (sym (e ∙ prefix_word b bs w))
    (word_at b bs (prefix_len is_word_part bs) w refl)

-- the bytes after the quote of a string, cut where the string ends
cut_at_quote : (bs : List ℕ) (n : ℕ) → IsBodyEnd bs n → bs ≡ take n bs ++ 34 ∷ drop (n + 1) bs
cut_at_quote bs n h = sym (take-append-drop n bs)
    ∙ ap (λ t. take n bs ++ t) (drop_more bs n 0 h.in_range ∙ ap (λ q. q ∷ drop (n + 1) bs) h.quote)

taken_to_quote : (bs : List ℕ) (n : ℕ) → IsBodyEnd bs n → take (n + 1) bs ≡ take n bs ++ 34 ∷ []
taken_to_quote bs n h = take_more bs n 0 h.in_range ∙ ap (λ q. take n bs ++ q ∷ []) h.quote

string_at : (bs : List ℕ) (n : ℕ) → IsBodyEnd bs n → IsLongest (34 ∷ bs) StringLit (suc (n + 1))
string_at bs n h =
    record {
      in_range = omega (arith, h.in_range);
      form = inr (inr ((take n bs, h.body, ap (λ t. 34 ∷ t) (taken_to_quote bs n h)), refl));
      longest = longest_string;
    }
  where
    longest_string : (m : ℕ) (l : TokenKind) → m ≤ length (34 ∷ bs) → IsForm (take m (34 ∷ bs)) l → m ≤ suc (n + 1)
    longest_string zero l r f = omega arith
    longest_string (suc m) l r f =
        let g = form_string 34 (take m bs) l refl f in
        let cut : g.0 ++ 34 ∷ drop m bs ≡ take n bs ++ 34 ∷ drop (n + 1) bs =
        sym (append_assoc g.0 (34 ∷ []) (drop m bs))
        ∙ (ap (λ t. t ++ drop m bs) (sym g.2) ∙ (take-append-drop m bs ∙ cut_at_quote bs n h)) in
        let same : g.0 ≡ take n bs = (same_bodies g.0 (take n bs) (drop m bs) (drop (n + 1) bs) g.1 h.body cut).0 in
        let whole : length (take m bs)
        ≡ length (take n bs ++ 34 ∷ []) = ap length (g.2 ∙ ap (λ t. t ++ 34 ∷ []) same) in
        omega (arith, whole, length-append (take n bs) (34 ∷ []), length-take m bs, length-take n bs, h.in_range)

no_string_at : (bs : List ℕ) → NoBody bs → NoForm (34 ∷ bs)
no_string_at bs h zero k f = no_form_nil k f
no_string_at bs h (suc m) k f =
    let g = form_string 34 (take m bs) k refl f in
    h g.0 (drop m bs) g.1 (sym (take-append-drop m bs)
    ∙ (ap (λ t. t ++ drop m bs) g.2 ∙ append_assoc g.0 (34 ∷ []) (drop m bs)))

-- a string ends at the first quote that no backslash precedes
pub longest_string : (rest : List ℕ) (n : ℕ) → StartsString rest → IsBodyEnd (drop 1 rest) n
    → IsLongest rest StringLit (n + 2)
longest_string [] n s h = absurd s
longest_string (b ∷ bs) n s h =
    let e : suc (n + 1) ≡ n + 2 = omega arith in
    subst (λ m. IsLongest (b ∷ bs) StringLit m) e
    (subst (λ q. IsLongest (q ∷ bs) StringLit (suc (n + 1))) (sym s) (string_at bs n h))

pub no_string : (rest : List ℕ) → StartsString rest → NoBody (drop 1 rest) → NoForm rest
no_string [] s h = absurd s
no_string (b ∷ bs) s h = subst (λ q. NoForm (q ∷ bs)) (sym s) (no_string_at bs h)

-- a mark: `::` first, else the one byte
pub longest_mark : (b : ℕ) (bs : List ℕ) (k : TokenKind) → is_word_start b ≡ false → b ≢ 34
    → (b ≡ 58 → get_or bs 0 0 ≢ 58) → single_mark b ≡ Some k → IsLongest (b ∷ bs) k 1
longest_mark b bs k w q n h = record { in_range = omega arith; form = inr (inl h); longest = longest_one bs n }
  where
    longest_one : (cs : List ℕ) → (b ≡ 58 → get_or cs 0 0 ≢ 58) → (m : ℕ) (l : TokenKind) → m ≤ length (b ∷ cs)
        → IsForm (take m (b ∷ cs)) l → m ≤ 1
    longest_one cs n zero l r f = omega arith
    longest_one cs n (suc zero) l r f = omega arith
    longest_one [] n (suc (suc m)) l r f = absurd (omega arith)
    longest_one (c ∷ cs) n (suc (suc zero)) l r f =
        let e = two_colons b c l (form_mark b (c ∷ []) l w q f) in absurd (n e.0 e.1)
    longest_one (c ∷ []) n (suc (suc (suc m))) l r f = absurd (omega arith)
    longest_one (c ∷ d ∷ cs) n (suc (suc (suc m))) l r f = let e = form_mark b (c ∷ d ∷ take m cs) l w q f in cc

pub longest_colons : (b c : ℕ) (bs : List ℕ) → b ≡ 58 → c ≡ 58 → IsLongest (b ∷ c ∷ bs) PathSep 2
longest_colons b c bs e f =
    subst (λ x. IsLongest (x ∷ c ∷ bs) PathSep 2) (sym e)
    (subst (λ x. IsLongest (58 ∷ x ∷ bs) PathSep 2) (sym f) (colons_at bs))
  where
    longest_two : (cs : List ℕ) (m : ℕ) (l : TokenKind) → m ≤ length (58 ∷ 58 ∷ cs) → IsForm (take m (58 ∷ 58 ∷ cs)) l
        → m ≤ 2
    longest_two cs zero l r f = omega arith
    longest_two cs (suc zero) l r f = omega arith
    longest_two cs (suc (suc zero)) l r f = omega arith
    longest_two [] (suc (suc (suc m))) l r f = absurd (omega arith)
    longest_two (d ∷ cs) (suc (suc (suc m))) l r f =
        let e = form_mark 58 (58 ∷ d ∷ take m cs) l refl (omega arith) f in cc

    colons_at : (bs : List ℕ) → IsLongest (58 ∷ 58 ∷ bs) PathSep 2
    colons_at bs = record { in_range = omega arith; form = inr (inl refl); longest = longest_two bs }

pub no_mark : (b : ℕ) (bs : List ℕ) → is_word_start b ≡ false → b ≢ 34 → single_mark b ≡ None → NoForm (b ∷ bs)
no_mark b bs w q n zero k f = no_form_nil k f
no_mark b bs w q n (suc zero) k f = let e : None ≡ Some k = sym n ∙ form_mark b [] k w q f in cc
no_mark b [] w q n (suc (suc m)) k f = let e : None ≡ Some k = sym n ∙ form_mark b [] k w q f in cc
no_mark b (c ∷ bs) w q n (suc (suc zero)) k f =
    let e = two_colons b c k (form_mark b (c ∷ []) k w q f) in
    let g : None ≡ single_mark 58 = sym n ∙ ap single_mark e.0 in cc
no_mark b (c ∷ []) w q n (suc (suc (suc m))) k f =
    let e = two_colons b c k (form_mark b (c ∷ []) k w q f) in
    let g : None ≡ single_mark 58 = sym n ∙ ap single_mark e.0 in cc
no_mark b (c ∷ d ∷ bs) w q n (suc (suc (suc m))) k f = let e = form_mark b (c ∷ d ∷ take m bs) k w q f in cc

pub mark_of_colons : (rest : List ℕ) → StartsColons rest → IsLongest rest PathSep 2
mark_of_colons [] h = absurd h
mark_of_colons (b ∷ []) h = absurd h
mark_of_colons (b ∷ c ∷ bs) h = longest_colons b c bs h.0 h.1

no_colons : (b : ℕ) (bs : List ℕ) → (StartsColons (b ∷ bs) → ⊥) → b ≡ 58 → get_or bs 0 0 ≢ 58
no_colons b [] n e f = omega arith
no_colons b (c ∷ bs) n e f = n (e, f)

pub mark_of_byte : (rest : List ℕ) (k : TokenKind) → StartsOther rest → (StartsColons rest → ⊥) → 0 < length rest
    → single_mark (get_or rest 0 0) ≡ Some k → IsLongest rest k 1
mark_of_byte [] k h n l e = absurd (omega arith)
mark_of_byte (b ∷ bs) k h n l e = longest_mark b bs k h.0 h.1 (no_colons b bs n) e

pub mark_of_none : (rest : List ℕ) → StartsOther rest → 0 < length rest → single_mark (get_or rest 0 0) ≡ None
    → NoForm rest
mark_of_none [] h l e = NoForm-nil
mark_of_none (b ∷ bs) h l e = no_mark b bs h.0 h.1 e
