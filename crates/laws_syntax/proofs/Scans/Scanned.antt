-- Each text is tokens, up to some place.
use Rattle.std.proofs.Common.{◌≡◌, ◌≤◌, ◌+◌, ◌-◌, ℕ, zero, suc, List, [], ◌∷◌, length, drop, inl, inr, refl, arith}
use Rattle.std.proofs.Common.{IsUtf8}
use Rattle.std.proofs.lemmas.List.{length-drop}
use Rattle.std.proofs.lemmas.Str.{IsUtf8-drop}
use Rattle.schema_syntax_grammar.specs.declared.token_kind.TokenKind.{TokenKind}
use Rattle.schema_syntax_tokens.specs.declared.token.Token.{Token}
use Rattle.schema_syntax_tokens.specs.Scans.{NoForm, IsLongest, IsNext, ScansFrom, Scans}
use Rattle.schema_syntax_tokens.proofs.Ends.{boundary_after_token}
use Rattle.schema_syntax_tokens.proofs.Whole.{longest_some}
use Rattle.laws_syntax.proofs.Scans.Blanks.{PastBlanks, past_blanks}
use Rattle.laws_syntax.proofs.Scans.Tokens.{token_or_none}

-- tokens of the bytes, up to some place in them
record ScannedFrom (from : ℕ) (rest : List ℕ) : Type 0 where
  tokens : List Token
  at : ℕ
  scans : ScansFrom from rest tokens at
  within : at ≤ from + length rest

stopped : (from : ℕ) (rest : List ℕ) (p : PastBlanks rest) → NoForm p.here → ScannedFrom from rest
stopped from rest p none =
    let less = p.shorter in
    let at : ℕ = from + length rest - length p.here in
    let place : at + length p.here ≡ from + length rest = omega (arith, less) in
    record { tokens = []; at = at; scans = (p.here, p.skips, place, p.stop, none); within = omega (arith, less) }

-- the token that stands behind the blanks
token_at : (from : ℕ) (rest here : List ℕ) (k : TokenKind) (n : ℕ) → Token
token_at from rest here k n = record {
  kind = k;
  loc = record { start = from + length rest - length here; end = from + length rest - length here + n };
}

next : (from : ℕ) (rest : List ℕ) (p : PastBlanks rest) (k : TokenKind) (n : ℕ) → IsLongest p.here k n
    → IsNext from rest (token_at from rest p.here k n) p.here n
unfolding token_at
next from rest p k n long = record {
  skips = p.skips;
  token = long;
  start = let less = p.shorter in omega (arith, less);
  stop = refl;
}

-- the tokens of what follows, behind this one
and_more : (from : ℕ) (rest : List ℕ) (p : PastBlanks rest) (k : TokenKind) (n : ℕ) → IsLongest p.here k n
    → ScannedFrom (token_at from rest p.here k n).loc.end (drop n p.here) → ScannedFrom from rest
unfolding token_at
and_more from rest p k n long s =
    let less = p.shorter in
    let range = long.in_range in
    let within = s.within in
    record {
      tokens = token_at from rest p.here k n ∷ s.tokens;
      at = s.at;
      scans = (p.here, n, next from rest p k n long, s.scans);
      within = omega (arith, less, range, within, length-drop n p.here);
    }

rest_shorter : (fuel : ℕ) (rest : List ℕ) (p : PastBlanks rest) (k : TokenKind) (n : ℕ) → IsLongest p.here k n
    → length rest ≤ suc fuel → length (drop n p.here) ≤ fuel
rest_shorter fuel rest p k n long l =
    let less = p.shorter in
    let some = longest_some p.here k n long in
    let range = long.in_range in omega (arith, less, some, range, l, length-drop n p.here)

rest_utf8 : (rest : List ℕ) (p : PastBlanks rest) (k : TokenKind) (n : ℕ) → IsLongest p.here k n
    → IsUtf8 (drop n p.here)
rest_utf8 rest p k n long = IsUtf8-drop p.here n p.utf8 (boundary_after_token p.here k n p.utf8 long)

none_left : (rest : List ℕ) (p : PastBlanks rest) (k : TokenKind) (n : ℕ) → IsLongest p.here k n
    → length rest ≤ 0 → ⊥
none_left rest p k n long l =
    let less = p.shorter in
    let some = longest_some p.here k n long in
    let range = long.in_range in omega (arith, less, some, range, l)

scan : (fuel from : ℕ) (rest : List ℕ) → length rest ≤ fuel → IsUtf8 rest → ScannedFrom from rest
scan zero from rest l u =
    let p = past_blanks rest u in
    elim (token_or_none p.here) [
      | inl n ↦ stopped from rest p n
      | inr t ↦ absurd (none_left rest p t.0 t.1 t.2 l)
    ]
scan (suc fuel) from rest l u =
    let p = past_blanks rest u in
    elim (token_or_none p.here) [
      | inl n ↦ stopped from rest p n
      | inr t ↦ and_more from rest p t.0 t.1 t.2
          (scan fuel (token_at from rest p.here t.0 t.1).loc.end (drop t.1 p.here)
          (rest_shorter fuel rest p t.0 t.1 t.2 l) (rest_utf8 rest p t.0 t.1 t.2))
    ]

-- each text in UTF-8 has tokens, up to some place in it
pub scanned : (text : List ℕ) → IsUtf8 text
    → (tokens : List Token) × (at : ℕ) × Scans text tokens at × (at ≤ length text)
scanned text u =
    let s = scan (length text) 0 text (omega arith) u in
    let within = s.within in (s.tokens, s.at, s.scans, omega (arith, within))
