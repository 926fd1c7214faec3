-- What a body stands for, piece by piece.
use Rattle.std.proofs.Common.{◌≡◌, ◌≢◌, ℕ, ◌+◌, ◌<◌, ◌≤◌, true, false, ◌==◌, List, [], ◌∷◌, ◌++◌, length, take, drop}
use Rattle.std.proofs.Common.{get_or, refl, sym, ap, ◌∙◌, subst, inl, inr, arith}
use Rattle.std.specs.List.{AllPass, prefix_len}
use Rattle.std.specs.Char.{encode_utf8}
use Rattle.std.specs.Str.{IsUtf8, IsCharBoundary, chars, encode_utf8_all}
use Rattle.std.proofs.lemmas.List.{take-append-drop, length-append, length-drop, append_assoc, append-nil}
use Rattle.std.proofs.lemmas.List.{drop_more, take_all, drop_all}
use Rattle.std.proofs.lemmas.List.Sums.{prefix_len_stops, prefix_len-le-length}
use Rattle.std.proofs.lemmas.Bool.{cases_lt, eqb-true, not-false}
use Rattle.std.proofs.lemmas.Str.{encode_ascii, encodes-append, encodes-chars, chars_from_encodes}
use Rattle.std.proofs.lemmas.Str.{IsCharBoundary-before_ascii, IsCharBoundary-end}
use Rattle.cedar_data.proofs.Lists.{All-front, All-back}
use Rattle.schema_syntax_tokens.specs.Escapes.{Unescapes, NoEscape, BadEscape, IsEscapeTo}
use Rattle.schema_syntax_tokens.specs.Steps.{is_unescaped}
use Rattle.schema_syntax_tokens.proofs.Longest.{AllPass-prefix}

-- what two bodies stand for, one behind the other
pub Unescapes-append : (xs ys cs ds : List ℕ) → Unescapes xs cs → Unescapes ys ds → Unescapes (xs ++ ys) (cs ++ ds)
Unescapes-append xs ys [] ds h k = subst (λ t. Unescapes (t ++ ys) ds) (sym h) k
Unescapes-append xs ys (c ∷ cs) ds h k =
    (h.0, h.1 ++ ys, ap (λ t. t ++ ys) h.2 ∙ append_assoc h.0 h.1 ys, h.3, Unescapes-append h.1 ys cs ds h.4 k)

no_backslash : (c : ℕ) → AllPass is_unescaped (encode_utf8 c) → c ≢ 92
no_backslash c h e =
    let one : encode_utf8 c ≡ 92 ∷ [] = ap encode_utf8 e ∙ encode_ascii 92 (omega arith) in
    let at : is_unescaped (get_or (92 ∷ []) 0 0) ≡ true = subst (λ t. AllPass is_unescaped t) one h 0 0 (omega arith) in
    cc

-- characters without a backslash stand for themselves
Unescapes-plain : (cs : List ℕ) → AllPass is_unescaped (encode_utf8_all cs) → Unescapes (encode_utf8_all cs) cs
Unescapes-plain [] h = refl
Unescapes-plain (c ∷ cs) h =
    let here : AllPass is_unescaped (encode_utf8 c) = All-front (λ x. is_unescaped x ≡ true) (encode_utf8 c)
    (encode_utf8_all cs) h in
    let there : AllPass is_unescaped (encode_utf8_all cs) = All-back (λ x. is_unescaped x ≡ true) (encode_utf8 c)
    (encode_utf8_all cs) h in
    (encode_utf8 c, encode_utf8_all cs, refl, inl (refl, no_backslash c here), Unescapes-plain cs there)

-- The body ends in rest, and what stands in front of it stands for the characters that are written so far.
pub record HasUnescaped (body rest written : List ℕ) : Type 0 where
  pub front : List ℕ
  pub value : List ℕ
  pub split : body ≡ front ++ rest
  pub stands_for : Unescapes front value
  pub bytes : encode_utf8_all value ≡ written

pub HasUnescaped-none : (body : List ℕ) → HasUnescaped body body []
HasUnescaped-none body = record { front = []; value = []; split = refl; stands_for = refl; bytes = refl }

-- more of the body, and what it stands for
has_more : (body rest after written piece more : List ℕ) (cs : List ℕ) → HasUnescaped body rest written
    → rest ≡ piece ++ after → Unescapes piece cs → encode_utf8_all cs ≡ more
    → HasUnescaped body after (written ++ more)
has_more body rest after written piece more cs h e u w =
    record {
      front = h.front ++ piece;
      value = h.value ++ cs;
      split = h.split ∙ (ap (λ t. h.front ++ t) e ∙ sym (append_assoc h.front piece after));
      stands_for = Unescapes-append h.front piece h.value cs h.stands_for u;
      bytes = encodes-append h.value cs ∙ (ap (λ t. t ++ encode_utf8_all cs) h.bytes ∙ ap (λ t. written ++ t) w);
    }

-- bytes up to the next backslash
pub HasUnescaped-plain : (body rest plain after written : List ℕ) (n : ℕ) → HasUnescaped body rest written
    → n ≡ prefix_len is_unescaped rest → plain ≡ take n rest → after ≡ drop n rest → IsUtf8 plain
    → HasUnescaped body after (written ++ plain)
HasUnescaped-plain body rest plain after written n h e p a u =
    let passes : AllPass is_unescaped plain = subst (λ t. AllPass is_unescaped t) (sym p)
    (subst (λ m. AllPass is_unescaped (take m rest)) (sym e) (AllPass-prefix is_unescaped rest)) in
    let same : encode_utf8_all (chars plain) ≡ plain = encodes-chars plain u in
    let cut : rest ≡ plain ++ after = sym (take-append-drop n rest)
    ∙ (ap (λ t. t ++ drop n rest) (sym p) ∙ ap (λ t. plain ++ t) (sym a)) in
    let stands : Unescapes plain (chars plain) =
    subst (λ t. Unescapes t (chars plain)) same
    (Unescapes-plain (chars plain) (subst (λ t. AllPass is_unescaped t) (sym same) passes)) in
    has_more body rest after written plain plain (chars plain) h cut stands same

-- one escape
pub HasUnescaped-escape : (body rest after written : List ℕ) (n c : ℕ) → HasUnescaped body rest written
    → IsEscapeTo rest n c → after ≡ drop n rest → HasUnescaped body after (written ++ encode_utf8 c)
HasUnescaped-escape body rest after written n c h l a =
    let cut : rest ≡ take n rest ++ after = sym (take-append-drop n rest) ∙ ap (λ t. take n rest ++ t) (sym a) in
    let stands : Unescapes (take n rest)
    (c ∷ []) = (take n rest, [], sym (append-nil (take n rest)), inr l.escape, refl) in
    has_more body rest after written (take n rest) (encode_utf8 c) (c ∷ []) h cut stands (append-nil (encode_utf8 c))

-- the end
pub HasUnescaped-all : (body rest written : List ℕ) → HasUnescaped body rest written → IsUtf8 written
    → length rest ≡ 0 → Unescapes body (chars written)
HasUnescaped-all body [] written h u l =
    let same : h.value ≡ chars written = chars_from_encodes h.value written u h.bytes in
    subst (λ cs. Unescapes body cs) same
    (subst (λ t. Unescapes t h.value) (sym (h.split ∙ append-nil h.front)) h.stands_for)
HasUnescaped-all body (b ∷ bs) written h u l = absurd (omega arith)

-- a body without a backslash stands for its own characters
pub without_backslash : (body : List ℕ) → prefix_len is_unescaped body ≡ length body → IsUtf8 body
    → Unescapes body (chars body)
without_backslash body e u =
    HasUnescaped-all body [] ([] ++ body)
    (HasUnescaped-plain body body body [] [] (length body) (HasUnescaped-none body) (sym e)
    (sym (take_all (length body) body (omega arith))) (sym (drop_all (length body) body (omega arith))) u) u refl

-- where the bytes up to the next backslash end, the text may be cut, and a backslash stands there or nothing
stop_byte : (rest : List ℕ) (n : ℕ) → n ≡ prefix_len is_unescaped rest → n < length rest → get_or rest n 0 ≡ 92
stop_byte rest n e l =
    let stops : is_unescaped (get_or rest n 0) ≡ false = ap (λ m. is_unescaped (get_or rest m 0)) e
    ∙ prefix_len_stops is_unescaped rest 0 (omega arith) in
    eqb-true (get_or rest n 0) 92 (not-false (get_or rest n 0 == 92) stops)

pub boundary_at_backslash : (rest : List ℕ) (n : ℕ) → n ≡ prefix_len is_unescaped rest → IsCharBoundary rest n
boundary_at_backslash rest n e =
    elim (cases_lt n (length rest)) [
      | inl l ↦ IsCharBoundary-before_ascii rest n l (omega (arith, stop_byte rest n e l))
      | inr l ↦
          let m : length rest ≡ n = omega (arith, prefix_len-le-length is_unescaped rest) in
          subst (λ k. IsCharBoundary rest k) m (IsCharBoundary-end rest)
    ]

backslash_first : (rest after : List ℕ) (n : ℕ) → n ≡ prefix_len is_unescaped rest → after ≡ drop n rest
    → 0 < length after → after ≡ 92 ∷ drop (n + 1) rest
backslash_first rest after n e a l =
    let m : n < length rest = omega (arith, ap length a, length-drop n rest) in
    a ∙ (drop_more rest n 0 m ∙ ap (λ b. b ∷ drop (n + 1) rest) (stop_byte rest n e m))

-- the first bad backslash
pub HasUnescaped-stuck : (body rest after written : List ℕ) (n at : ℕ) → HasUnescaped body after written
    → n ≡ prefix_len is_unescaped rest → after ≡ drop n rest → 0 < length after → NoEscape after
    → at + length after ≡ length body → BadEscape body at
HasUnescaped-stuck body rest after written n at h e a l f p =
    let first = backslash_first rest after n e a l in
    record {
      front = h.front;
      value = h.value;
      rest = drop (n + 1) rest;
      split = h.split ∙ ap (λ t. h.front ++ t) first;
      place = omega (arith, ap length h.split, length-append h.front after);
      unescapes = h.stands_for;
      unlawful = subst (λ t. NoEscape t) first f;
    }

pub rest_no_longer : (body rest written : List ℕ) → HasUnescaped body rest written → length rest ≤ length body
rest_no_longer body rest written h = omega (arith, ap length h.split, length-append h.front rest)
