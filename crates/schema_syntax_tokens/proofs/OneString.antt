-- A text written as a string is one string, which stands for the text.
use Rattle.std.proofs.Common.{◌≡◌, ◌≢◌, ℕ, ◌+◌, ◌<◌, Bool, true, false, cond, not, ◌==◌, ◌||◌, ◌&&◌, List, [], ◌∷◌}
use Rattle.std.proofs.Common.{◌++◌, length, get_or, Some, refl, sym, ap, ◌∙◌, subst, inl, inr, arith, nat_lt, nat_le}
use Rattle.std.proofs.Common.{if◌then◌else◌}
use Rattle.std.specs.List.{list_all}
use Rattle.std.specs.Char.{encode_utf8, is_digit}
use Rattle.std.specs.Str.{all_scalars}
use Rattle.std.proofs.lemmas.List.{length-append, append_assoc, take_at, get_or_at}
use Rattle.std.proofs.lemmas.List.Sums.{AllPass-from_list_all}
use Rattle.std.proofs.lemmas.Bool.{cases_eq, cases_Bool, and_parts, or_cases, ltb-true, leb-true, eqb-true, eq-eqb}
use Rattle.std.proofs.lemmas.Bool.{ne_eqb, agree_below_at, cond-true, cond-false}
use Rattle.schema_syntax_grammar.specs.declared.token_kind.TokenKind.TheVariants.{StringLit}
use Rattle.schema_syntax_tokens.specs.Forms.{IsPlainByte, IsBody, IsBodyEnd}
use Rattle.schema_syntax_tokens.specs.Scans.{IsLongest}
use Rattle.schema_syntax_tokens.specs.Escapes.{simple_escape, hex_value, digits_of, is_place, ArePlaces, IsEscape}
use Rattle.schema_syntax_tokens.specs.Escapes.{IsPieceFor, Unescapes}
use Rattle.schema_syntax_tokens.specs.Quotes.{is_escaped, lower_hex, quoted_char, quoted_body, quoted}
use Rattle.schema_syntax_tokens.proofs.Bodies.{IsBody-plain, IsBody-escaped, IsBody-append}
use Rattle.schema_syntax_tokens.proofs.ByCharacters.{plain_bytes, IsBody-all_plain}
use Rattle.schema_syntax_tokens.proofs.Longest.{longest_string}
use Rattle.schema_syntax_tokens.proofs.Quoting.{escaped_ascii, quoted_char-plain}

-- `IsBody` as a test
is_body : List ℕ → Bool
is_body [] = true
is_body (b ∷ []) = not (b == 34) && not (b == 92)
is_body (b ∷ c ∷ bs) = cond (b == 92) (not (c == 10) && is_body bs) (not (b == 34) && is_body (c ∷ bs))

not_from_test : (b n : ℕ) → not (b == n) ≡ true → b ≢ n
not_from_test b n h e = let f : not true ≡ true = ap not (sym (eq-eqb b n e)) ∙ h in cc

body_from_test : (bs : List ℕ) → is_body bs ≡ true → IsBody bs
unfolding is_body
body_from_test [] h = tt
body_from_test (b ∷ []) h = let p = and_parts (not (b == 34)) (not (b == 92)) h in
    (not_from_test b 34 p.0, not_from_test b 92 p.1)
body_from_test (b ∷ c ∷ bs) h =
    elim (cases_eq b 92) [
      | inl e ↦
          let p = and_parts (not (c == 10)) (is_body bs) (sym (cond-true (b == 92) _ _ (eq-eqb b 92 e)) ∙ h) in
          IsBody-escaped b c bs e (not_from_test c 10 p.0) (body_from_test bs p.1)
      | inr n ↦
          let p = and_parts (not (b == 34)) (is_body (c ∷ bs)) (sym (cond-false (b == 92) _ _ (ne_eqb b 92 n)) ∙ h) in
          IsBody-plain b (c ∷ bs) (not_from_test b 34 p.0, n) (body_from_test (c ∷ bs) p.1)
    ]

is_written_body : ℕ → Bool
is_written_body c = not (is_escaped c) || is_body (quoted_char c)

escaped_body : (c : ℕ) → is_escaped c ≡ true → is_body (quoted_char c) ≡ true
unfolding is_written_body is_body
escaped_body c h = sym (ap (λ t. not t || is_body (quoted_char c)) h)
    ∙ agree_below_at is_written_body (λ _. true) 128 c refl (escaped_ascii c h)

plain_unless_escaped : (c : ℕ) → is_escaped c ≡ false → IsPlainByte c
plain_unless_escaped c h = (
  λ e. let f : true ≡ false = ap is_escaped (sym e) ∙ h in cc,
  λ e. let f : true ≡ false = ap is_escaped (sym e) ∙ h in cc,
)

quoted_char_body : (c : ℕ) → IsBody (quoted_char c)
quoted_char_body c =
    elim (cases_Bool (is_escaped c)) [
      | inl h ↦ body_from_test (quoted_char c) (escaped_body c h)
      | inr h ↦ subst (λ t. IsBody t) (sym (quoted_char-plain c h))
          (IsBody-all_plain (encode_utf8 c) (plain_bytes c (plain_unless_escaped c h)))
    ]

pub quoted_body_is : (cs : List ℕ) → IsBody (quoted_body cs)
quoted_body_is [] = tt
quoted_body_is (c ∷ cs) = IsBody-append (quoted_char c) (quoted_body cs) (quoted_char_body c) (quoted_body_is cs)

-- one string token, whatever follows it
pub one_string : (cs after : List ℕ) → IsLongest (quoted cs ++ after) StringLit (length (quoted cs))
one_string cs after =
    let whole : (quoted_body cs ++ 34 ∷ []) ++ after ≡ quoted_body cs
    ++ 34 ∷ after = append_assoc (quoted_body cs) (34 ∷ []) after in
    let ends : IsBodyEnd (quoted_body cs ++ 34 ∷ after) (length (quoted_body cs)) =
    record {
      in_range = omega (arith, length-append (quoted_body cs) (34 ∷ after));
      body = subst (λ t. IsBody t) (sym (take_at (quoted_body cs) (34 ∷ after) (length (quoted_body cs)) refl))
          (quoted_body_is cs);
      quote = get_or_at (quoted_body cs) 34 after 0 (length (quoted_body cs)) refl;
    } in
    let size : length (quoted_body cs) + 2
    ≡ length (quoted cs) = omega (arith, length-append (quoted_body cs) (34 ∷ [])) in
    subst (λ n. IsLongest (quoted cs ++ after) StringLit n) size
    (longest_string (quoted cs ++ after) (length (quoted_body cs)) refl
    (subst (λ t. IsBodyEnd t (length (quoted_body cs))) (sym whole) ends))

-- the number of a control in lower hex, as a test
is_control_written : ℕ → Bool
is_control_written c =
    ((is_digit (get_or (lower_hex c) 0 0) 16 && list_all is_place (lower_hex c)) && nat_le
    (length (digits_of (lower_hex c))) 6)
    && ((c == hex_value 0 (digits_of (lower_hex c))) && all_scalars (c ∷ []))

control_escape : (c : ℕ) → c < 128 → IsEscape (92 ∷ 117 ∷ 123 ∷ (lower_hex c ++ 125 ∷ [])) c
unfolding is_control_written
control_escape c l =
    let row : is_control_written c ≡ true = agree_below_at is_control_written (λ _. true) 128 c refl l in
    let p = and_parts ((is_digit (get_or (lower_hex c) 0 0) 16 && list_all is_place (lower_hex c)) && nat_le
    (length (digits_of (lower_hex c))) 6) ((c == hex_value 0 (digits_of (lower_hex c))) && all_scalars (c ∷ [])) row in
    let q = and_parts (is_digit (get_or (lower_hex c) 0 0) 16 && list_all is_place (lower_hex c))
    (nat_le (length (digits_of (lower_hex c))) 6) p.0 in
    let r = and_parts (is_digit (get_or (lower_hex c) 0 0) 16) (list_all is_place (lower_hex c)) q.0 in
    let s = and_parts (c == hex_value 0 (digits_of (lower_hex c))) (all_scalars (c ∷ [])) p.1 in
    let places : ArePlaces (lower_hex c) = record {
      first = r.0;
      each = AllPass-from_list_all is_place (lower_hex c) r.1;
      few = leb-true (length (digits_of (lower_hex c))) 6 q.1;
    } in
    inr (inr (
      lower_hex c,
      refl,
      places,
      eqb-true c (hex_value 0 (digits_of (lower_hex c))) s.0,
      (and_parts _ true s.1).0,
    ))

at_simple : (c n b : ℕ) (r : List ℕ) → IsEscape (92 ∷ b ∷ []) n → (c ≢ n → IsPieceFor r c)
    → IsPieceFor (if c == n then 92 ∷ b ∷ [] else r) c
at_simple c n b r here there =
    elim (cases_eq c n) [
      | inl e ↦ subst (λ t. IsPieceFor t c) (sym (cond-true (c == n) (92 ∷ b ∷ []) r (eq-eqb c n e)))
          (inr (subst (λ x. IsEscape (92 ∷ b ∷ []) x) (sym e) here))
      | inr ne ↦ subst (λ t. IsPieceFor t c) (sym (cond-false (c == n) (92 ∷ b ∷ []) r (ne_eqb c n ne))) (there ne)
    ]

simple : (b n : ℕ) → simple_escape b ≡ Some n → IsEscape (92 ∷ b ∷ []) n
simple b n h = inl (b, refl, h)

at_control : (c : ℕ) → c ≢ 92
    → IsPieceFor (if nat_lt c 32 || c == 127 then 92 ∷ 117 ∷ 123 ∷ (lower_hex c ++ 125 ∷ []) else encode_utf8 c) c
at_control c n =
    elim (cases_Bool (nat_lt c 32 || c == 127)) [
      | inl h ↦ subst (λ t. IsPieceFor t c)
          (sym (cond-true (nat_lt c 32 || c == 127) (92 ∷ 117 ∷ 123 ∷ (lower_hex c ++ 125 ∷ [])) (encode_utf8 c) h))
          (inr (control_escape c (control_ascii c h)))
      | inr h ↦ subst (λ t. IsPieceFor t c)
          (sym (cond-false (nat_lt c 32 || c == 127) (92 ∷ 117 ∷ 123 ∷ (lower_hex c ++ 125 ∷ [])) (encode_utf8 c) h))
          (inl (refl, n))
    ]
  where
    control_ascii : (c : ℕ) → (nat_lt c 32 || c == 127) ≡ true → c < 128
    control_ascii c h = elim (or_cases (nat_lt c 32) (c == 127) h)
        [ inl l ↦ omega (arith, ltb-true c 32 l) | inr e ↦ omega (arith, eqb-true c 127 e) ]

-- a character as it is written stands for itself
quoted_char_stands : (c : ℕ) → IsPieceFor (quoted_char c) c
quoted_char_stands c =
    at_simple c 0 48 _ (simple 48 0 refl)
    (λ _. at_simple c 9 116 _ (simple 116 9 refl)
    (λ _. at_simple c 10 110 _ (simple 110 10 refl) (λ _. at_simple c 13 114 _ (simple 114 13 refl)
    (λ _. at_simple c 34 34 _ (simple 34 34 refl)
    (λ _. at_simple c 39 39 _ (simple 39 39 refl)
    (λ _. at_simple c 92 92 _ (simple 92 92 refl) (λ n. at_control c n)))))))

pub stands_for_text : (cs : List ℕ) → Unescapes (quoted_body cs) cs
stands_for_text [] = refl
stands_for_text (c ∷ cs) = (quoted_char c, quoted_body cs, refl, quoted_char_stands c, stands_for_text cs)
