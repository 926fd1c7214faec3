-- Blanks: what the first one is, and what follows it.
use Rattle.std.proofs.Common.{◌≡◌, ◌≢◌, ℕ, zero, suc, ◌+◌, ◌<◌, ◌≤◌, true, false, List, [], ◌∷◌, ◌++◌, length, take}
use Rattle.std.proofs.Common.{drop}
use Rattle.std.proofs.Common.{get_or, refl, sym, ap, ◌∙◌, subst, inl, inr, ◌⊎◌, arith, add-zero}
use Rattle.std.specs.List.{All}
use Rattle.std.specs.Char.{is_whitespace, encode_utf8}
use Rattle.std.specs.Str.{IsUtf8, IsCharBoundary}
use Rattle.std.proofs.lemmas.List.{take-append-drop, length-append, length-drop, get_or-drop, drop_at}
use Rattle.std.proofs.lemmas.List.Elements.{All-tail}
use Rattle.std.proofs.lemmas.Bool.{cases_lt}
use Rattle.std.proofs.lemmas.Bool.Decides.{nat_tests}
use Rattle.std.proofs.lemmas.Str.{encode_ascii, encode_same, length-encode, len_utf8_bounds, IsCharBoundary-end}
use Rattle.std.proofs.lemmas.Str.{IsCharBoundary-before_ascii, IsUtf8-past_char, IsUtf8-drop}
use Rattle.schema_syntax_tokens.specs.Scans.{IsInLine, EndsLine, IsComment, IsBlank, NoBlank, IsPastBlank, Skips}
use Rattle.schema_syntax_tokens.specs.Scans.Skips.{none, more}
use Rattle.schema_syntax_tokens.specs.Steps.{StartsComment, IsPrinted}

-- a character has a byte
encode_some : (c : ℕ) (after : List ℕ) → [] ≡ encode_utf8 c ++ after → ⊥
encode_some c after e =
    let l : 0 ≡ length (encode_utf8 c) + length after = ap length e ∙ length-append (encode_utf8 c) after in
    omega (arith, l, length-encode c, (len_utf8_bounds c).0)

pub NoBlank-nil : NoBlank []
NoBlank-nil b after e (inl s) = encode_some s.0 after (e ∙ ap (λ t. t ++ after) s.2)
NoBlank-nil b after e (inr s) = let g : [] ≡ (47 ∷ 47 ∷ s.0) ++ after = e ∙ ap (λ t. t ++ after) s.1 in cc

-- no blank begins where neither a space nor `//` stands
pub NoBlank-other : (rest after : List ℕ) (c : ℕ) → rest ≡ encode_utf8 c ++ after → is_whitespace c ≡ false
    → (StartsComment rest → ⊥) → NoBlank rest
NoBlank-other rest after c e w n b later e' (inl s) =
    let same : c ≡ s.0 = (encode_same c s.0 after later (sym e ∙ (e' ∙ ap (λ t. t ++ later) s.2))).0 in
    let g : false ≡ true = sym w ∙ (ap is_whitespace same ∙ s.1) in cc
NoBlank-other rest after c e w n b later e' (inr s) =
    n (subst (λ t. StartsComment t) (sym (e' ∙ ap (λ t. t ++ later) s.1)) (refl, refl))

printed_is_no_space : (b : ℕ) → IsPrinted b → is_whitespace b ≡ false
printed_is_no_space b p = grind (arith, nat_tests, p.0, p.1.0)

-- a space is a blank
pub past_space : (rest : List ℕ) → 1 ≤ length rest → get_or rest 0 0 ≡ 32 → IsPastBlank rest (drop 1 rest)
unfolding encode_utf8
past_space [] some is = absurd (omega (arith, some))
past_space (b ∷ after) some is = (32 ∷ [], ap (λ c. c ∷ after) is, inl (32, refl, refl))

no_slash : (rest : List ℕ) → get_or rest 0 0 ≢ 47 → StartsComment rest → ⊥
no_slash [] other s = s
no_slash (b ∷ []) other s = s
no_slash (b ∷ c ∷ rest) other s = other s.0

-- no blank begins with a byte that is printed and no slash
pub NoBlank-printed : (rest : List ℕ) → 1 ≤ length rest → IsPrinted (get_or rest 0 0) → NoBlank rest
NoBlank-printed [] some p = absurd (omega (arith, some))
NoBlank-printed (b ∷ after) some p =
    NoBlank-other (b ∷ after) after b (ap (λ t. t ++ after) (sym (encode_ascii b (omega (arith, p.0, p.1.0)))))
    (printed_is_no_space b p) (no_slash (b ∷ after) p.1.1)

-- the line of a comment ends behind its two slashes
cut_line : (rest : List ℕ) (n : ℕ) → StartsComment rest → n ≤ length rest → All IsInLine (take n rest)
    → EndsLine (drop n rest) → IsComment (take n rest) (drop n rest)
cut_line [] n h l i s = absurd h
cut_line (b ∷ []) n h l i s = absurd h
cut_line (b ∷ c ∷ bs) zero h l i (inl s) = absurd (omega (arith, h.0, s))
cut_line (b ∷ c ∷ bs) zero h l i (inr s) = absurd (omega (arith, h.0, s))
cut_line (b ∷ c ∷ bs) (suc zero) h l i (inl s) = absurd (omega (arith, h.1, s))
cut_line (b ∷ c ∷ bs) (suc zero) h l i (inr s) = absurd (omega (arith, h.1, s))
cut_line (b ∷ c ∷ bs) (suc (suc n)) h l i s =
    (take n bs, cc, All-tail IsInLine c (take n bs) (All-tail IsInLine b (c ∷ take n bs) i), s)

pub past_comment : (rest : List ℕ) (n : ℕ) → StartsComment rest → n ≤ length rest → All IsInLine (take n rest)
    → EndsLine (drop n rest) → IsPastBlank rest (drop n rest)
past_comment rest n h l i s = (take n rest, sym (take-append-drop n rest), inr (cut_line rest n h l i s))

line_end_byte : (bs : List ℕ) → EndsLine bs → (bs ≡ []) ⊎ (get_or bs 0 0 < 128)
line_end_byte [] s = inl refl
line_end_byte (b ∷ bs) (inl s) = inr (omega arith)
line_end_byte (b ∷ bs) (inr s) = inr (omega arith)

at_cut : (rest : List ℕ) (n : ℕ) → get_or (drop n rest) 0 0 ≡ get_or rest n 0
at_cut rest n = get_or-drop n rest 0 0 ∙ ap (λ k. get_or rest k 0) (add-zero n)

-- a text may be cut where a line ends
pub boundary_at_line_end : (rest : List ℕ) (n : ℕ) → n ≤ length rest → EndsLine (drop n rest) → IsCharBoundary rest n
boundary_at_line_end rest n l s =
    elim (cases_lt n (length rest)) [
      | inl m ↦
          elim (line_end_byte (drop n rest) s) [
            | inl e ↦ let z : length (drop n rest) ≡ 0 = ap length e in absurd (omega (arith, z, length-drop n rest))
            | inr b ↦ IsCharBoundary-before_ascii rest n m (rw (← at_cut rest n) b)
          ]
      | inr m ↦ let e : length rest ≡ n = omega arith in subst (λ k. IsCharBoundary rest k) e (IsCharBoundary-end rest)
    ]

-- blanks, and then one more
pub skips_more : {rest after end : List ℕ} → Skips rest after → IsPastBlank after end → Skips rest end
skips_more none p = more p none
skips_more (more q s) p = more q (skips_more s p)

pub NoBlank-empty : (rest : List ℕ) → length rest ≡ 0 → NoBlank rest
NoBlank-empty [] e = NoBlank-nil
NoBlank-empty (b ∷ bs) e = absurd (omega arith)

utf8_past : (b after : List ℕ) → IsUtf8 (b ++ after) → IsBlank b after → IsUtf8 after
utf8_past b after u (inl s) = IsUtf8-past_char (b ++ after) after s.0 u (ap (λ t. t ++ after) s.2)
utf8_past b after u (inr s) =
    let e : drop (length b) (b ++ after) ≡ after = drop_at b after (length b) refl in
    let stop : EndsLine (drop (length b) (b ++ after)) = subst (λ t. EndsLine t) (sym e) s.3 in
    let l : length b ≤ length (b ++ after) = omega (arith, length-append b after) in
    subst (λ t. IsUtf8 t) e (IsUtf8-drop (b ++ after) (length b) u
    (boundary_at_line_end (b ++ after) (length b) l stop))

-- what follows a blank is text
pub IsUtf8-past_blank : (rest after : List ℕ) → IsUtf8 rest → IsPastBlank rest after → IsUtf8 after
IsUtf8-past_blank rest after u p = utf8_past p.0 after (subst (λ t. IsUtf8 t) p.1 u) p.2
