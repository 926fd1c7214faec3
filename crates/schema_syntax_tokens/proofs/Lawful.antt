-- Lawful escapes, by what the bytes begin with.
use Rattle.std.proofs.Common.{◌≡◌, ℕ, suc, ◌+◌, ◌<◌, true, cond, ◌==◌, List, [], ◌∷◌, ◌++◌, take, drop}
use Rattle.std.proofs.Common.{get_or, Option, Some, refl, sym, ap, ◌∙◌, subst, inl, inr, arith, nat_lt, if◌then◌else◌}
use Rattle.std.specs.Str.{IsUtf8, IsCharBoundary}
use Rattle.std.proofs.lemmas.Bool.{cases_eq, ne_eqb, ltb-true}
use Rattle.std.proofs.lemmas.Bool.Decides.{nat_tests}
use Rattle.schema_syntax_tokens.proofs.Ends.{EndsAscii, boundary_after}
use Rattle.std.specs.Char.{is_digit}
use Rattle.std.proofs.lemmas.List.{take_more}
use Rattle.schema_syntax_tokens.specs.Escapes.{simple_escape, IsEscape, IsEscapeTo, NoEscape}
use Rattle.schema_syntax_tokens.specs.Steps.{NoHexPair, IsBraced}

-- no escape stands where `\x` has no two hex digits up to 7F behind it
pub no_hex_escape : (rest : List ℕ) → get_or rest 1 0 ≡ 120 → NoHexPair (drop 2 rest) → NoEscape rest
no_hex_escape rest b n e after c h (inl s) =
    let g : get_or rest 1 0 ≡ s.0 = ap (λ t. get_or t 1 0) (h ∙ ap (λ t. t ++ after) s.1) in
    let f : simple_escape 120 ≡ Some c = ap simple_escape (sym b ∙ g) ∙ s.2 in cc
no_hex_escape rest b n e after c h (inr (inl s)) =
    n c (s.0, s.1, after, ap (λ t. drop 2 t) (h ∙ ap (λ t. t ++ after) s.2), s.3, s.4, s.5, s.6)
no_hex_escape rest b n e after c h (inr (inr s)) =
    let g : get_or rest 1 0 ≡ 117 = ap (λ t. get_or t 1 0) (h ∙ ap (λ t. t ++ after) s.1) in
    omega arith

braced_at : (bs : List ℕ) (n c : ℕ) → IsBraced bs n c → IsEscapeTo (92 ∷ 117 ∷ 123 ∷ bs) (suc (suc (suc (n + 1)))) c
braced_at bs n c h =
    let cut : take (n + 1) bs ≡ take n bs ++ 125 ∷ [] = take_more bs n 0 h.in_range
    ∙ ap (λ q. take n bs ++ q ∷ []) h.brace in
    record {
      in_range = omega (arith, h.in_range);
      escape = inr (inr (take n bs, ap (λ t. 92 ∷ 117 ∷ 123 ∷ t) cut, h.places, h.value, h.scalar));
    }

-- `\u{..}`
pub braced_escape : (rest : List ℕ) (n c : ℕ) → get_or rest 0 0 ≡ 92 → get_or rest 1 0 ≡ 117 → get_or rest 2 0 ≡ 123
    → IsBraced (drop 3 rest) n c → IsEscapeTo rest (n + 4) c
braced_escape [] n c e f g h = absurd (omega arith)
braced_escape (x ∷ []) n c e f g h = absurd (omega arith)
braced_escape (x ∷ y ∷ []) n c e f g h = absurd (omega arith)
braced_escape (x ∷ y ∷ z ∷ bs) n c e f g h =
    let len : suc (suc (suc (n + 1))) ≡ n + 4 = omega arith in
    subst (λ m. IsEscapeTo (x ∷ y ∷ z ∷ bs) m c) len
    (subst (λ t. IsEscapeTo t (suc (suc (suc (n + 1)))) c) (λ i. sym e i ∷ sym f i ∷ sym g i ∷ bs) (braced_at bs n c h))

at_simple : (b n c : ℕ) (x r : Option ℕ) → nat_lt n 128 ≡ true → (r ≡ Some c → nat_lt b 128 ≡ true)
    → (if b == n then x else r) ≡ Some c → nat_lt b 128 ≡ true
at_simple b n c x r here there h =
    elim (cases_eq b n) [
      | inl e ↦ ap (λ t. nat_lt t 128) e ∙ here
      | inr ne ↦ there (sym (ap (λ t. cond t x r) (ne_eqb b n ne)) ∙ h)
    ]

simple_ascii : (b c : ℕ) → simple_escape b ≡ Some c → nat_lt b 128 ≡ true
simple_ascii b c h =
    at_simple b 110 c _ _ refl (at_simple b 114 c _ _ refl
    (at_simple b 116 c _ _ refl (at_simple b 92 c _ _ refl (at_simple b 48 c _ _ refl
    (at_simple b 39 c _ _ refl (at_simple b 34 c _ _ refl (λ e. cc))))))) h

digit_ascii : (b : ℕ) → is_digit b 16 ≡ true → b < 128
digit_ascii b h = grind (arith, nat_tests)

-- an escape ends in an ASCII byte
pub escape_end : (e : List ℕ) (c : ℕ) → IsEscape e c → EndsAscii e
escape_end e c (inl s) = (92 ∷ [], s.0, s.1, ltb-true s.0 128 (simple_ascii s.0 c s.2))
escape_end e c (inr (inl s)) = (92 ∷ 120 ∷ s.0 ∷ [], s.1, s.2, digit_ascii s.1 s.4)
escape_end e c (inr (inr s)) = (92 ∷ 117 ∷ 123 ∷ s.0, 125, s.1, omega arith)

pub boundary_after_escape : (rest : List ℕ) (n c : ℕ) → IsUtf8 rest → IsEscapeTo rest n c → IsCharBoundary rest n
boundary_after_escape rest n c u h = boundary_after rest n u h.in_range (escape_end (take n rest) c h.escape)
