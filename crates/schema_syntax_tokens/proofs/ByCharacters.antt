-- Pieces of strings, by bytes and by characters.
use Rattle.std.proofs.Common.{◌≡◌, ◌≢◌, ℕ, ◌<◌, ◌≤◌, List, [], ◌∷◌, ◌++◌, length, get_or, refl, sym, ap, ◌∙◌, subst}
use Rattle.std.proofs.Common.{inl, inr, arith, ◌↔◌}
use Rattle.std.specs.List.{All}
use Rattle.std.specs.Char.{encode_utf8}
use Rattle.std.specs.Str.{encode_utf8_all}
use Rattle.std.proofs.lemmas.List.{append-nil, get_or_default}
use Rattle.std.proofs.lemmas.List.Elements.{All-nil, All-head, All-tail}
use Rattle.std.proofs.lemmas.Bool.{cases_eq, cases_lt}
use Rattle.std.proofs.lemmas.Str.{encode_ascii, char_from_byte, inside_one, length-encode, len_utf8_bounds}
use Rattle.schema_syntax_tokens.specs.Forms.{IsPlainByte, IsBody}
use Rattle.schema_syntax_tokens.proofs.Bodies.{Body, pieces, IsBody-plain, IsBody-escaped, IsBody-append}
use Rattle.schema_syntax_tokens.proofs.Bodies.Body.{none, plain, escaped}

-- a byte below 128 in a character is the character
pub byte_is_char : (c k d : ℕ) → k < length (encode_utf8 c) → get_or (encode_utf8 c) k d < 128
    → c ≡ get_or (encode_utf8 c) k d
byte_is_char c k d l h =
    let same : get_or (encode_utf8 c) k d ≡ get_or (encode_utf8 c) k 0 = get_or_default (encode_utf8 c) k d 0 l in
    inside_one c [] (encode_utf8 c) k (sym (append-nil (encode_utf8 c))) l (omega arith) ∙ sym same

-- the bytes of a character other than `"` and `\` are plain
pub plain_bytes : (c : ℕ) → IsPlainByte c → All IsPlainByte (encode_utf8 c)
plain_bytes c p k d l = (
  λ e. p.0 (byte_is_char c k d l (omega (arith, e)) ∙ e),
  λ e. p.1 (byte_is_char c k d l (omega (arith, e)) ∙ e),
)

-- the bytes of a character above 127 are plain
high_bytes : (c : ℕ) → 128 ≤ c → All IsPlainByte (encode_utf8 c)
high_bytes c h = plain_bytes c (omega arith, omega arith)

pub IsBody-all_plain : (xs : List ℕ) → All IsPlainByte xs → IsBody xs
IsBody-all_plain [] h = tt
IsBody-all_plain (x ∷ xs) h = IsBody-plain x xs (All-head IsPlainByte x xs h)
    (IsBody-all_plain xs (All-tail IsPlainByte x xs h))

-- plain bytes in front of a body may be left out
behind_plain : (x : ℕ) (xs : List ℕ) → IsPlainByte x → IsBody (x ∷ xs) → IsBody xs
behind_plain x [] p h = tt
behind_plain x (y ∷ ys) p (inl h) = h.1
behind_plain x (y ∷ ys) p (inr h) = absurd (p.1 h.0)

behind_all_plain : (xs ys : List ℕ) → All IsPlainByte xs → IsBody (xs ++ ys) → IsBody ys
behind_all_plain [] ys a h = h
behind_all_plain (x ∷ xs) ys a h =
    behind_all_plain xs ys (All-tail IsPlainByte x xs a) (behind_plain x (xs ++ ys) (All-head IsPlainByte x xs a) h)

-- a character is its first byte and plain bytes
first_byte : (c : ℕ)
    → (b : ℕ) × (more : List ℕ) × (encode_utf8 c ≡ b ∷ more) × All IsPlainByte more × (b ≡ 10 → c ≡ 10)
    × (c ≡ 10 → b ≡ 10)
first_byte c = by_bytes (encode_utf8 c) refl
  where
    low : (c b : ℕ) (bs : List ℕ) → encode_utf8 c ≡ b ∷ bs → c < 128 → (b ≡ c) × (bs ≡ [])
    low c b bs e l = let f : b ∷ bs ≡ c ∷ [] = sym e ∙ encode_ascii c l in (cc, cc)

    tail_plain : (c b : ℕ) (bs : List ℕ) → encode_utf8 c ≡ b ∷ bs → All IsPlainByte bs
    tail_plain c b bs e =
        elim (cases_lt c 128) [
          | inl l ↦ subst (λ t. All IsPlainByte t) (sym (low c b bs e l).1) (All-nil IsPlainByte)
          | inr h ↦ All-tail IsPlainByte b bs (subst (λ t. All IsPlainByte t) e (high_bytes c h))
        ]

    back : (c b : ℕ) (bs : List ℕ) → encode_utf8 c ≡ b ∷ bs → b ≡ 10 → c ≡ 10
    back c b bs e f = char_from_byte (b ∷ bs) [] c (sym (append-nil (encode_utf8 c) ∙ e)) (omega arith) (omega arith)
        ∙ f

    there : (c b : ℕ) (bs : List ℕ) → encode_utf8 c ≡ b ∷ bs → c ≡ 10 → b ≡ 10
    there c b bs e f = (low c b bs e (omega arith)).0 ∙ f

    by_bytes : (xs : List ℕ) → encode_utf8 c ≡ xs
        → (b : ℕ) × (more : List ℕ) × (encode_utf8 c ≡ b ∷ more) × All IsPlainByte more × (b ≡ 10 → c ≡ 10)
        × (c ≡ 10 → b ≡ 10)
    by_bytes [] e = absurd (omega (arith, ap length e, length-encode c, (len_utf8_bounds c).0))
    by_bytes (b ∷ bs) e = (b, bs, e, tail_plain c b bs e, back c b bs e, there c b bs e)

backslash_first : (c : ℕ) (rest : List ℕ) → c ≡ 92 → encode_utf8 c ++ rest ≡ 92 ∷ rest
backslash_first c rest e = ap (λ x. encode_utf8 x ++ rest) e ∙ ap (λ t. t ++ rest) (encode_ascii 92 (omega arith))

bytes_of_pieces : {cs : List ℕ} → Body cs → IsBody (encode_utf8_all cs)
bytes_of_pieces none = tt
bytes_of_pieces (plain {b = c} {bs = cs} p h) =
    IsBody-append (encode_utf8 c) (encode_utf8_all cs) (IsBody-all_plain (encode_utf8 c) (plain_bytes c p))
    (bytes_of_pieces h)
bytes_of_pieces (escaped {b = b} {c = c} {bs = cs} e n h) =
    let f = first_byte c in
    let bytes : encode_utf8 b ++ (encode_utf8 c ++ encode_utf8_all cs) ≡ 92 ∷ f.0 ∷ (f.1 ++ encode_utf8_all cs) =
    backslash_first b (encode_utf8 c ++ encode_utf8_all cs) e ∙ ap (λ t. 92 ∷ (t ++ encode_utf8_all cs)) f.2 in
    let body : IsBody (f.1 ++ encode_utf8_all cs) = IsBody-append f.1 (encode_utf8_all cs) (IsBody-all_plain f.1 f.3)
    (bytes_of_pieces h) in
    subst (λ t. IsBody t) (sym bytes) (IsBody-escaped 92 f.0 (f.1 ++ encode_utf8_all cs) refl (λ g. n (f.4 g)) body)

-- a body begins with no quote
no_quote_first : (bs : List ℕ) → IsBody (34 ∷ bs) → ⊥
no_quote_first [] h = h.0 refl
no_quote_first (b ∷ bs) (inl h) = h.0.0 refl
no_quote_first (b ∷ bs) (inr h) = omega (arith, h.0)

behind_escape : (b : ℕ) (bs : List ℕ) → IsBody (92 ∷ b ∷ bs) → (b ≢ 10) × IsBody bs
behind_escape b bs (inl h) = absurd (h.0.1 refl)
behind_escape b bs (inr h) = (h.1, h.2)

pieces_of_bytes : (cs : List ℕ) → IsBody (encode_utf8_all cs) → IsBody cs
pieces_of_bytes [] h = tt
pieces_of_bytes (c ∷ []) h =
    elim (cases_eq c 34) [
      | inl e ↦ absurd (no_quote_first []
          (subst (λ t. IsBody t)
          (ap (λ x. encode_utf8 x ++ []) e ∙ ap (λ t. t ++ []) (encode_ascii 34 (omega arith))) h))
      | inr n ↦
          elim (cases_eq c 92) [
            | inl e ↦ let lone : IsBody (92 ∷ []) = subst (λ t. IsBody t) (backslash_first c [] e) h in
                absurd (lone.1 refl)
            | inr m ↦ (n, m)
          ]
    ]
pieces_of_bytes (c ∷ d ∷ cs) h =
    elim (cases_eq c 34) [
      | inl e ↦ absurd (no_quote_first (encode_utf8_all (d ∷ cs))
          (subst (λ t. IsBody t) (ap (λ x. encode_utf8 x ++ encode_utf8_all (d ∷ cs)) e
          ∙ ap (λ t. t ++ encode_utf8_all (d ∷ cs)) (encode_ascii 34 (omega arith))) h))
      | inr n ↦
          elim (cases_eq c 92) [
            | inl e ↦
                let f = first_byte d in
                let bytes : encode_utf8 c ++ (encode_utf8 d ++ encode_utf8_all cs)
                ≡ 92 ∷ f.0 ∷ (f.1 ++ encode_utf8_all cs) =
                backslash_first c (encode_utf8 d ++ encode_utf8_all cs) e
                ∙ ap (λ t. 92 ∷ (t ++ encode_utf8_all cs)) f.2 in
                let split = behind_escape f.0 (f.1 ++ encode_utf8_all cs) (subst (λ t. IsBody t) bytes h) in
                inr (
                  e,
                  λ g. split.0 (f.5 g),
                  pieces_of_bytes cs
                      (behind_all_plain f.1 (encode_utf8_all cs) f.3 split.1),
                )
            | inr m ↦ inl (
              (n, m),
              pieces_of_bytes (d ∷ cs)
                  (behind_all_plain (encode_utf8 c) (encode_utf8_all (d ∷ cs)) (plain_bytes c (n, m)) h),
            )
          ]
    ]

pub by_characters : (cs : List ℕ) → IsBody (encode_utf8_all cs) ↔ IsBody cs
by_characters cs = (pieces_of_bytes cs, λ h. bytes_of_pieces (pieces cs h))
