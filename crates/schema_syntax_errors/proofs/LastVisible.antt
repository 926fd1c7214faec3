-- The last character that is no white space, against the text without the white space at its end.
use Rattle.std.proofs.Common.{◌≡◌, ℕ, ◌-◌, ◌<◌, Bool, true, false, not, cond, ◌&&◌, ◌==◌, List, [], ◌∷◌, ◌++◌, length}
use Rattle.std.proofs.Common.{take, Option, Some, None, refl, sym, ap, ◌∙◌, subst, arith, lit<}
use Rattle.std.specs.Prelude.{reverse}
use Rattle.std.specs.Bool.{MatchBool}
use Rattle.std.specs.Char.{is_whitespace, is_not_whitespace}
use Rattle.std.specs.Cmp.{both_ways}
use Rattle.std.specs.List.{find}
use Rattle.std.specs.Option.{option_or, option_map_or}
use Rattle.std.specs.Str.{IsUtf8, IsCharBoundary, encode_utf8_all, drop_trailing_whitespace}
use Rattle.std.specs.Str.Pattern.{FindsCharSuffix, HasSuffixMatch}
use Rattle.std.proofs.lemmas.Bool.{eqb-true}
use Rattle.std.proofs.lemmas.List.{reverse-append}
use Rattle.std.proofs.lemmas.List.Folds.{find-append}
use Rattle.std.proofs.lemmas.Str.{IsUtf8-take, encodes-append, encode_ascii}
use Rattle.std.proofs.lemmas.Str.Pattern.{ends_char}
use Rattle.schema_syntax_errors.specs.FaultHelps.{last_visible}
use Rattle.schema_syntax_errors.specs.SameFaults.{encodes_injective}

-- the characters end in this one, or there are none
abbrev pub EndsAs : Option ℕ → List ℕ → Type 0
EndsAs None cs = cs ≡ []
EndsAs (Some c) cs = (front : List ℕ) × (cs ≡ front ++ c ∷ [])

last_more : (c : ℕ) (cs : List ℕ)
    → last_visible (c ∷ cs) ≡ option_or (last_visible cs) (cond (is_not_whitespace c) (Some c) None)
last_more c cs = ap (find is_not_whitespace) (reverse-append (c ∷ []) cs)
    ∙ find-append is_not_whitespace (reverse cs) (c ∷ [])

not_empty : (front : List ℕ) (c : ℕ) → (length (front ++ c ∷ []) == 0) ≡ false
not_empty [] c = refl
not_empty (b ∷ front) c = grind arith

ends_more : (c : ℕ) (cs : List ℕ) (last : Option ℕ) (white : Bool) → EndsAs last cs
    → EndsAs (option_or last (cond (not white) (Some c) None)) (cond (white && length cs == 0) [] (c ∷ cs))
ends_more c cs None true h = ap (λ x. cond (length x == 0) [] (c ∷ x)) h
ends_more c cs None false h = ([], ap (λ x. c ∷ x) h)
ends_more c cs (Some d) true h = (
  c ∷ h.0,
  ap (λ x. cond (length x == 0) [] (c ∷ x)) h.1
      ∙ ap (λ b. cond b [] (c ∷ (h.0 ++ d ∷ []))) (not_empty h.0 d),
)
ends_more c cs (Some d) false h = (c ∷ h.0, ap (λ x. c ∷ x) h.1)

pub ends_as : (cs : List ℕ) → EndsAs (last_visible cs) (drop_trailing_whitespace cs)
ends_as [] = refl
ends_as (c ∷ cs) = subst (λ o. EndsAs o (drop_trailing_whitespace (c ∷ cs))) (sym (last_more c cs))
    (ends_more c (drop_trailing_whitespace cs) (last_visible cs) (is_whitespace c) (ends_as cs))

-- lists that end alike
no_end : (front : List ℕ) (c : ℕ) → [] ≡ front ++ c ∷ [] → ⊥
no_end [] c e = cc
no_end (b ∷ front) c e = cc

same_end : (xs ys : List ℕ) (c d : ℕ) → xs ++ c ∷ [] ≡ ys ++ d ∷ [] → c ≡ d
same_end [] [] c d e = cc
same_end [] (y ∷ ys) c d e = let rest : [] ≡ ys ++ d ∷ [] = cc in absurd (no_end ys d rest)
same_end (x ∷ xs) [] c d e = let rest : [] ≡ xs ++ c ∷ [] = cc in absurd (no_end xs c rest)
same_end (x ∷ xs) (y ∷ ys) c d e = let rest : xs ++ c ∷ [] ≡ ys ++ d ∷ [] = cc in same_end xs ys c d rest

-- the bytes of characters that end in an ASCII one
bytes_end : (front : List ℕ) (c : ℕ) → c < 128 → encode_utf8_all (front ++ c ∷ []) ≡ encode_utf8_all front ++ c ∷ []
bytes_end front c low = encodes-append front (c ∷ [])
    ∙ ap (λ x. encode_utf8_all front ++ (x ++ [])) (encode_ascii c low)

-- characters whose bytes end in `}` end in it
ends_by_bytes : (text cs : List ℕ) → IsUtf8 text → IsCharBoundary text (length text - 1) → encode_utf8_all cs ≡ text
    → text ≡ take (length text - 1) text ++ 125 ∷ [] → EndsAs (Some 125) cs
ends_by_bytes text cs utf8 boundary spelled ends =
    let front = IsUtf8-take text (length text - 1) utf8 boundary in (
      front.0,
      encodes_injective cs (front.0 ++ 125 ∷ [])
          (spelled ∙ ends ∙ ap (λ x. x ++ 125 ∷ []) (sym front.1.1) ∙ sym (bytes_end front.0 125 (lit< tt))),
    )

boundary_of : (r : Bool) (text : List ℕ)
    → MatchBool r (HasSuffixMatch (FindsCharSuffix 125) text) (FindsCharSuffix 125 text None) → r ≡ true
    → IsCharBoundary text (length text - 1)
boundary_of true text found e = found.1.2
boundary_of false text found e = cc

brace_by_last : (r : Bool) (text cs : List ℕ) (last : Option ℕ) → (r ≡ true → EndsAs (Some 125) cs)
    → ((front : List ℕ) → text ≡ front ++ 125 ∷ [] → r ≡ true) → encode_utf8_all cs ≡ text → EndsAs last cs
    → r ≡ option_map_or (λ c. c == 125) last false
brace_by_last r text cs None to from spelled h =
    both_ways r false (λ e. let end = to e in absurd (no_end end.0 125 (sym h ∙ end.1))) (λ e. cc)
brace_by_last r text cs (Some d) to from spelled h =
    both_ways r (d == 125)
    (λ e. let end = to e in let same : d ≡ 125 = same_end h.0 end.0 d 125 (sym h.1 ∙ end.1) in grind (arith, same))
    (λ e. from (encode_utf8_all h.0)
    (sym spelled ∙ ap encode_utf8_all h.1 ∙ ap (λ x. encode_utf8_all (h.0 ++ x ∷ [])) (eqb-true d 125 e)
    ∙ bytes_end h.0 125 (lit< tt)))

-- a text that spells the characters without the white space at their end, tested for `}`
pub brace_test : (r : Bool) (text cs : List ℕ) → IsUtf8 text → encode_utf8_all (drop_trailing_whitespace cs) ≡ text
    → MatchBool r (HasSuffixMatch (FindsCharSuffix 125) text) (FindsCharSuffix 125 text None)
    → r ≡ option_map_or (λ c. c == 125) (last_visible cs) false
brace_test r text cs utf8 spelled found =
    let both = ends_char 125 text r found (lit< tt) in
    brace_by_last r text (drop_trailing_whitespace cs) (last_visible cs)
    (λ e. ends_by_bytes text (drop_trailing_whitespace cs) utf8 (boundary_of r text found e) spelled (both.0 e))
    both.1 spelled (ends_as cs)
