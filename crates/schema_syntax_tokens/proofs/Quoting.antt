-- Quoting: which bytes are escaped, and what is written so far.
use Rattle.std.proofs.Common.{◌≡◌, ℕ, ◌+◌, ◌<◌, ◌≤◌, Bool, true, false, not, ◌==◌, ◌||◌, List, [], ◌∷◌, ◌++◌, length}
use Rattle.std.proofs.Common.{take, drop, get_or, refl, sym, ap, ◌∙◌, subst, inl, inr, arith, nat_lt}
use Rattle.std.specs.List.{list_all}
use Rattle.std.specs.Char.{encode_utf8, IsScalar}
use Rattle.std.specs.Str.{IsUtf8, IsAscii, IsCharBoundary, chars, encode_utf8_all, all_scalars}
use Rattle.std.proofs.lemmas.List.{take-append-drop, append_assoc, append-nil, drop_more}
use Rattle.std.proofs.lemmas.List.Concat.{flat_map-append}
use Rattle.std.proofs.lemmas.List.Sums.{AllPass-from_list_all}
use Rattle.std.proofs.lemmas.Bool.{cases_Bool, or_cases, or_parts, and_parts, ltb-true, ltb-false, eqb-true, ne_eqb}
use Rattle.std.proofs.lemmas.Bool.{cond-false, agree_below_at}
use Rattle.std.proofs.lemmas.Str.{encode_ascii, encodes-chars, chars-append, chars_past_char, scalars-chars}
use Rattle.std.proofs.lemmas.Str.{IsUtf8-append, IsUtf8-nil, IsUtf8-encode, IsUtf8-from_ascii, IsUtf8-take, IsUtf8-drop}
use Rattle.std.proofs.lemmas.Str.{IsCharBoundary-before_ascii, IsCharBoundary-after_ascii}
use Rattle.std.proofs.lemmas.Str.Ascii.{IsAscii-from_all, IsAscii-cons, IsAscii-nil}
use Rattle.cedar_data.proofs.Lists.{All-front, All-back}
use Rattle.schema_syntax_tokens.specs.Quotes.{is_escaped, quoted_char, quoted_body, quoted, HasWritten, WritesFront}
use Rattle.schema_syntax_tokens.specs.Steps.{NoneEscaped, IsNextEscape}

-- what is escaped is ASCII, and so is how it is written
is_written_ascii : ℕ → Bool
is_written_ascii b = not (is_escaped b) || list_all (λ x. nat_lt x 128) (quoted_char b)

pub escaped_ascii : (c : ℕ) → is_escaped c ≡ true → c < 128
escaped_ascii c h =
    elim (or_cases (nat_lt c 32 || c == 127) ((c == 34 || c == 39) || c == 92) h) [
      | inl a ↦ elim (or_cases (nat_lt c 32) (c == 127) a)
          [ inl l ↦ omega (arith, ltb-true c 32 l) | inr e ↦ omega (arith, eqb-true c 127 e) ]
      | inr a ↦
          elim (or_cases (c == 34 || c == 39) (c == 92) a) [
            | inl q ↦ elim (or_cases (c == 34) (c == 39) q)
                [ inl e ↦ omega (arith, eqb-true c 34 e) | inr e ↦ omega (arith, eqb-true c 39 e) ]
            | inr e ↦ omega (arith, eqb-true c 92 e)
          ]
    ]

-- each character that is not escaped stands as it is
pub quoted_char-plain : (c : ℕ) → is_escaped c ≡ false → quoted_char c ≡ encode_utf8 c
quoted_char-plain c h =
    let p = or_parts (nat_lt c 32 || c == 127) ((c == 34 || c == 39) || c == 92) h in
    let q = or_parts (nat_lt c 32) (c == 127) p.0 in
    let r = or_parts (c == 34 || c == 39) (c == 92) p.1 in
    let s = or_parts (c == 34) (c == 39) r.0 in
    let low : 32 ≤ c = ltb-false c 32 q.0 in
    cond-false (c == 0) _ _ (ne_eqb c 0 (λ e. omega arith))
    ∙ (cond-false (c == 9) _ _ (ne_eqb c 9 (λ e. omega arith))
    ∙ (cond-false (c == 10) _ _ (ne_eqb c 10 (λ e. omega arith))
    ∙ (cond-false (c == 13) _ _ (ne_eqb c 13 (λ e. omega arith))
    ∙ (cond-false (c == 34) _ _ s.0 ∙ (cond-false (c == 39) _ _ s.1 ∙ (cond-false (c == 92) _ _ r.1
    ∙ cond-false (nat_lt c 32 || c == 127) _ _ p.0))))))

pub escape_ascii : (c : ℕ) → is_escaped c ≡ true → IsAscii (quoted_char c)
unfolding is_written_ascii
escape_ascii c h =
    let row : is_written_ascii c ≡ true = agree_below_at is_written_ascii (λ _. true) 128 c refl (escaped_ascii c h) in
    let all : list_all (λ x. nat_lt x 128) (quoted_char c)
    ≡ true = sym (ap (λ t. not t || list_all (λ x. nat_lt x 128) (quoted_char c)) h) ∙ row in
    IsAscii-from_all (quoted_char c)
    (λ k d l. ltb-true (get_or (quoted_char c) k d) 128
    (AllPass-from_list_all (λ x. nat_lt x 128) (quoted_char c) all k d l))

pub escape_text_is : (c : ℕ) → is_escaped c ≡ true → IsUtf8 (quoted_char c)
escape_text_is c h = IsUtf8-from_ascii (quoted_char c) (escape_ascii c h)

quoted_char_text : (c : ℕ) → IsScalar c → IsUtf8 (quoted_char c)
quoted_char_text c s =
    elim (cases_Bool (is_escaped c)) [
      | inl h ↦ escape_text_is c h
      | inr h ↦ subst (λ t. IsUtf8 t) (sym (quoted_char-plain c h)) (IsUtf8-encode c s)
    ]

-- the body of a string is text
pub IsUtf8-quoted_body : (cs : List ℕ) → all_scalars cs ≡ true → IsUtf8 (quoted_body cs)
IsUtf8-quoted_body [] h = IsUtf8-nil
IsUtf8-quoted_body (c ∷ cs) h =
    let p = and_parts _ (all_scalars cs) h in
    IsUtf8-append (quoted_char c) (quoted_body cs) (quoted_char_text c p.0) (IsUtf8-quoted_body cs p.1)

plain_char : (c : ℕ) → NoneEscaped (encode_utf8 c) → is_escaped c ≡ false
plain_char c h =
    elim (cases_Bool (is_escaped c)) [
      | inl e ↦ subst (λ t. NoneEscaped t) (encode_ascii c (escaped_ascii c e)) h 0 0 (omega arith)
      | inr e ↦ e
    ]

-- characters of which none is escaped stand as they are
quoted_body-plain : (cs : List ℕ) → NoneEscaped (encode_utf8_all cs) → quoted_body cs ≡ encode_utf8_all cs
quoted_body-plain [] h = refl
quoted_body-plain (c ∷ cs) h =
    let e : quoted_char c ≡ encode_utf8 c = quoted_char-plain c
    (plain_char c (All-front (λ b. is_escaped b ≡ false) (encode_utf8 c) (encode_utf8_all cs) h)) in
    let r : quoted_body cs ≡ encode_utf8_all cs = quoted_body-plain cs
    (All-back (λ b. is_escaped b ≡ false) (encode_utf8 c) (encode_utf8_all cs) h) in
    λ i. e i ++ r i

quoted_text-plain : (plain : List ℕ) → IsUtf8 plain → NoneEscaped plain → quoted_body (chars plain) ≡ plain
quoted_text-plain plain u h =
    let same : encode_utf8_all (chars plain) ≡ plain = encodes-chars plain u in
    quoted_body-plain (chars plain) (subst (λ t. NoneEscaped t) (sym same) h) ∙ same

-- what is to be written where nothing is escaped any more
pub left_plain : (rest : List ℕ) → IsUtf8 rest → NoneEscaped rest → chars (quoted_body (chars rest)) ≡ chars rest
left_plain rest u h = ap chars (quoted_text-plain rest u h)

-- what is to be written up to the next escape, the escape, and what follows it
left_parts : (plain following : List ℕ) (b : ℕ) → IsUtf8 plain → IsUtf8 (b ∷ following) → NoneEscaped plain
    → is_escaped b ≡ true
    → chars (quoted_body (chars (plain ++ b ∷ following))) ≡ chars plain
    ++ (chars (quoted_char b) ++ chars (quoted_body (chars following)))
left_parts plain following b u v n h =
    let one : b ∷ following ≡ encode_utf8 b
    ++ following = sym (ap (λ t. t ++ following) (encode_ascii b (escaped_ascii b h))) in
    let split : chars (plain ++ b ∷ following) ≡ chars plain ++ (b ∷ chars following) =
    chars-append plain (b ∷ following) u
    ∙ ap (λ t. chars plain ++ t) (chars_past_char (b ∷ following) following b v one) in
    let body : quoted_body (chars (plain ++ b ∷ following)) ≡ plain
    ++ (quoted_char b ++ quoted_body (chars following)) =
    ap quoted_body split ∙ (flat_map-append quoted_char (chars plain) (b ∷ chars following)
    ∙ ap (λ t. t ++ (quoted_char b ++ quoted_body (chars following))) (quoted_text-plain plain u n)) in
    ap chars body ∙ (chars-append plain (quoted_char b ++ quoted_body (chars following)) u
    ∙ ap (λ t. chars plain ++ t) (chars-append (quoted_char b) (quoted_body (chars following)) (escape_text_is b h)))

pub HasWritten-none : (text all : List ℕ) → HasWritten text text all all
HasWritten-none text all = ([], sym (append-nil text), refl)

pub HasWritten-more : (old now new all piece left after : List ℕ) → HasWritten old now all left → new ≡ now ++ piece
    → left ≡ piece ++ after → HasWritten old new all after
HasWritten-more old now new all piece left after h e f = (
  h.0 ++ piece,
  e ∙ (ap (λ t. t ++ piece) h.1 ∙ append_assoc old h.0 piece),
  h.2
      ∙ (ap (λ t. h.0 ++ t) f ∙ sym (append_assoc h.0 piece after)),
)

pub HasWritten-all : (old new all : List ℕ) → HasWritten old new all [] → new ≡ old ++ all
HasWritten-all old new all h = h.1 ∙ ap (λ t. old ++ t) (sym (h.2 ∙ append-nil h.0))

pub HasWritten-same : (old now new all left : List ℕ) → HasWritten old now all left → new ≡ now
    → HasWritten old new all left
HasWritten-same old now new all left h e = subst (λ t. HasWritten old t all left) (sym e) h

cut_next : (rest following : List ℕ) (at : ℕ) → at < length rest → following ≡ drop 1 (drop at rest)
    → (rest ≡ take at rest ++ get_or rest at 0 ∷ following) × (drop at rest ≡ get_or rest at 0 ∷ following)
cut_next rest following at l f =
    let first : drop at rest ≡ get_or rest at 0 ∷ drop (at + 1) rest = drop_more rest at 0 l in
    let same : drop (at + 1) rest ≡ following = ap (λ t. drop 1 t) (sym first) ∙ sym f in
    let whole : drop at rest ≡ get_or rest at 0 ∷ following = first ∙ ap (λ t. get_or rest at 0 ∷ t) same in
    (sym (take-append-drop at rest) ∙ ap (λ t. take at rest ++ t) whole, whole)

-- The place of the next escape.
pub boundary_at_escape : (rest text : List ℕ) (at : ℕ) → IsNextEscape rest at text → IsCharBoundary rest at
boundary_at_escape rest text at h =
    IsCharBoundary-before_ascii rest at h.in_range (escaped_ascii (get_or rest at 0) h.escaped)

pub boundary_after_escaped : (rest text : List ℕ) (at : ℕ) → IsUtf8 rest → IsNextEscape rest at text
    → IsCharBoundary (drop at rest) 1
boundary_after_escaped rest text at u h =
    let first : drop at rest ≡ get_or rest at 0 ∷ drop (at + 1) rest = drop_more rest at 0 h.in_range in
    let byte : get_or (drop at rest) 0 0 ≡ get_or rest at 0 = ap (λ t. get_or t 0 0) first in
    let some : 0 < length (drop at rest) = omega (arith, ap length first) in
    IsCharBoundary-after_ascii (drop at rest) 0 (IsUtf8-drop rest at u (boundary_at_escape rest text at h)) some
    (omega (arith, byte, escaped_ascii (get_or rest at 0) h.escaped))

pub text_before_escape : (rest text : List ℕ) (at : ℕ) → IsUtf8 rest → IsNextEscape rest at text
    → IsUtf8 (take at rest)
text_before_escape rest text at u h = IsUtf8-take rest at u (boundary_at_escape rest text at h)

pub text_after_escape : (rest text : List ℕ) (at : ℕ) → IsUtf8 rest → IsNextEscape rest at text
    → IsUtf8 (drop 1 (drop at rest))
text_after_escape rest text at u h =
    IsUtf8-drop (drop at rest) 1 (IsUtf8-drop rest at u (boundary_at_escape rest text at h))
    (boundary_after_escaped rest text at u h)

-- what is to be written, up to the next escape, the escape, and what follows
pub left_to_escape : (rest text : List ℕ) (at : ℕ) → IsUtf8 rest → IsNextEscape rest at text
    → chars (quoted_body (chars rest)) ≡ chars (take at rest)
    ++ (chars text ++ chars (quoted_body (chars (drop 1 (drop at rest)))))
left_to_escape rest text at u h =
    let cut = cut_next rest (drop 1 (drop at rest)) at h.in_range refl in
    let later : IsUtf8 (get_or rest at 0 ∷ drop 1 (drop at rest)) = subst (λ t. IsUtf8 t) cut.1
    (IsUtf8-drop rest at u (boundary_at_escape rest text at h)) in
    ap (λ t. chars (quoted_body (chars t))) cut.0
    ∙ (left_parts (take at rest) (drop 1 (drop at rest)) (get_or rest at 0) (text_before_escape rest text at u h)
    later h.plain h.escaped
    ∙ ap (λ t. chars (take at rest) ++ (chars t ++ chars (quoted_body (chars (drop 1 (drop at rest))))))
    (sym h.written))

-- a string as a whole: the quote, the body, the quote
pub left_quoted : (value : List ℕ) → IsUtf8 value
    → chars (quoted (chars value)) ≡ chars (34 ∷ []) ++ (chars (quoted_body (chars value)) ++ chars (34 ∷ []))
left_quoted value u =
    let quote : IsUtf8 (34 ∷ []) = IsUtf8-from_ascii (34 ∷ []) (IsAscii-cons 34 [] (omega arith) IsAscii-nil) in
    chars-append (34 ∷ []) (quoted_body (chars value) ++ 34 ∷ []) quote
    ∙ ap (λ t. chars (34 ∷ []) ++ t)
    (chars-append (quoted_body (chars value)) (34 ∷ []) (IsUtf8-quoted_body (chars value) (scalars-chars value u)))

-- a front of a part is a front of the whole
pub front_of_part : (old now new all part more : List ℕ) → HasWritten old now all (part ++ more)
    → WritesFront now new part → WritesFront old new all
front_of_part old now new all part more h w = (
  w.0 ++ more,
  HasWritten-more old now new all w.1.0 (part ++ more) (w.0 ++ more) h w.1.1
      (ap (λ t. t ++ more) w.1.2 ∙ append_assoc w.1.0 w.0 more),
)
