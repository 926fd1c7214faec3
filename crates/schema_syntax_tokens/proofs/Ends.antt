-- Tokens end in an ASCII byte, so the text may be cut behind them.
use Rattle.std.proofs.Common.{◌≡◌, ℕ, ◌+◌, ◌<◌, ◌≤◌, true, not, ◌&&◌, ◌==◌, List, [], ◌∷◌, ◌++◌, length, take, get_or}
use Rattle.std.proofs.Common.{Some, refl, sym, ap, ◌∙◌, subst, inl, inr, arith, nat_lt}
use Rattle.std.specs.List.{AllPass}
use Rattle.std.specs.Char.{is_whitespace}
use Rattle.std.specs.Str.{IsUtf8, IsCharBoundary}
use Rattle.std.proofs.lemmas.List.{length-take-le, length-append, get_or-take, get_or_at}
use Rattle.std.proofs.lemmas.List.Elements.{All-head, All-tail}
use Rattle.std.proofs.lemmas.Bool.{and_parts, ltb-true}
use Rattle.std.proofs.lemmas.Str.{IsCharBoundary-after_ascii}
use Rattle.cedar_data.specs.Words.{is_word_start, is_word_part}
use Rattle.cedar_data.proofs.Ascii.{part_ascii, start_part}
use Rattle.schema_syntax_grammar.specs.declared.token_kind.TokenKind.{TokenKind}
use Rattle.schema_syntax_tokens.specs.Forms.{mark_kind, IsForm}
use Rattle.schema_syntax_tokens.specs.Scans.{IsLongest}
use Rattle.schema_syntax_tokens.proofs.Longest.{may_be_mark, mark_byte, two_colons}

-- the last byte is below 128
abbrev pub EndsAscii : List ℕ → Type 0
EndsAscii w = (front : List ℕ) × (l : ℕ) × (w ≡ front ++ l ∷ []) × (l < 128)

pub mark_ascii : (b : ℕ) → may_be_mark b ≡ true → b < 128
mark_ascii b h =
    let p = and_parts (not (is_word_start b) && not (b == 34))
    ((not (b == 47) && not (is_whitespace b)) && nat_lt b 128) h in
    ltb-true b 128 (and_parts (not (b == 47) && not (is_whitespace b)) (nat_lt b 128) p.1).1

parts_end : (b : ℕ) (bs : List ℕ) → is_word_part b ≡ true → AllPass is_word_part bs → EndsAscii (b ∷ bs)
parts_end b [] p h = ([], b, refl, part_ascii b p)
parts_end b (c ∷ bs) p h =
    let r = parts_end c bs (All-head (λ x. is_word_part x ≡ true) c bs h)
    (All-tail (λ x. is_word_part x ≡ true) c bs h) in
    (b ∷ r.0, r.1, ap (λ t. b ∷ t) r.2, r.3)

mark_end : (w : List ℕ) (k : TokenKind) → mark_kind w ≡ Some k → EndsAscii w
mark_end [] k h = cc
mark_end (b ∷ []) k h = ([], b, refl, mark_ascii b (mark_byte b k h))
mark_end (b ∷ c ∷ []) k h = (b ∷ [], c, refl, let e : c ≡ 58 = (two_colons b c k h).1 in omega arith)
mark_end (b ∷ c ∷ d ∷ bs) k h = cc

word_end : (w : List ℕ) (k : TokenKind) → IsForm w k → EndsAscii w
word_end w k (inr (inl h)) = mark_end w k h
word_end w k (inr (inr h)) = (34 ∷ h.0.0, 34, h.0.2, omega arith)
word_end [] k (inl h) = absurd h.0
word_end (b ∷ bs) k (inl h) = parts_end b bs (start_part b h.0.0) h.0.1

pub boundary_after : (rest : List ℕ) (n : ℕ) → IsUtf8 rest → n ≤ length rest → EndsAscii (take n rest)
    → IsCharBoundary rest n
boundary_after rest n u l h =
    let size : length (take n rest) ≡ length h.0 + 1 = ap length h.2 ∙ length-append h.0 (h.1 ∷ []) in
    let m : n ≡ length h.0 + 1 = omega (arith, size, length-take-le n rest l) in
    let in_front : length h.0 < n = omega arith in
    let e : get_or rest (length h.0) 0 ≡ h.1 =
    sym (get_or-take n rest (length h.0) 0 in_front)
    ∙ (ap (λ t. get_or t (length h.0) 0) h.2 ∙ get_or_at h.0 h.1 [] 0 (length h.0) refl) in
    subst (λ k. IsCharBoundary rest k) (sym m)
    (IsCharBoundary-after_ascii rest (length h.0) u (omega arith) (omega (arith, e, h.3)))

-- the text may be cut behind its first token
pub boundary_after_token : (rest : List ℕ) (k : TokenKind) (n : ℕ) → IsUtf8 rest → IsLongest rest k n
    → IsCharBoundary rest n
boundary_after_token rest k n u h = boundary_after rest n u h.in_range (word_end (take n rest) k h.form)
