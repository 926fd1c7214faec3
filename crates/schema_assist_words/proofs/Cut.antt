-- A text that is cut in front of a token has the tokens before it.
use Rattle.std.proofs.Common.{◌≡◌, ℕ, ◌+◌, ◌≤◌, List, [], ◌∷◌, ◌++◌, length, drop, refl, sym}
use Rattle.std.proofs.Common.{ap, ◌∙◌, subst, arith, inl, inr}
use Rattle.std.specs.List.{All}
use Rattle.std.proofs.lemmas.List.{take-append-le, drop-append-le, length-append, length-drop}
use Rattle.std.proofs.lemmas.List.{append_assoc, append_cancel_right}
use Rattle.std.proofs.lemmas.List.Elements.{All-nil, All-cons}
use Rattle.schema_syntax_grammar.specs.declared.token_kind.TokenKind.{TokenKind}
use Rattle.schema_syntax_tokens.specs.declared.token.Token.{Token}
use Rattle.schema_syntax_tokens.specs.Forms.{IsForm}
use Rattle.schema_syntax_tokens.specs.Scans.{EndsLine, IsBlank, Skips, IsLongest, IsNext, ScansFrom}
use Rattle.schema_syntax_tokens.specs.Scans.Skips.{none, more}
use Rattle.schema_syntax_tokens.proofs.Blank.{NoBlank-nil}
use Rattle.schema_syntax_tokens.proofs.Longest.{NoForm-nil}
use Rattle.schema_syntax_tokens.proofs.Whole.{skips_front}

-- what blanks lead to is no longer than the text
pub skips_shorter : {rest here : List ℕ} → Skips rest here → length here ≤ length rest
skips_shorter {here = here} s =
    let f = skips_front s in omega (arith, ap length f.1, length-append f.0 here)

-- tokens stop behind the place from which they are read
pub stops_behind : (from : ℕ) (rest : List ℕ) (ts : List Token) (at : ℕ) → ScansFrom from rest ts at → from ≤ at
stops_behind from rest [] at h = omega (arith, h.2, skips_shorter h.1)
stops_behind from rest (t ∷ ts) at h =
    omega (arith, h.2.start, h.2.stop, skips_shorter h.2.skips, stops_behind t.loc.end (drop h.1 h.0) ts at h.3)

-- and within the text
pub stops_within : (from : ℕ) (rest : List ℕ) (ts : List Token) (at : ℕ) → ScansFrom from rest ts at
    → at ≤ from + length rest
stops_within from rest [] at h = omega (arith, h.2)
stops_within from rest (t ∷ ts) at h =
    omega (
      arith,
      h.2.start,
      h.2.stop,
      h.2.token.in_range,
      length-drop h.1 h.0,
      stops_within t.loc.end (drop h.1 h.0) ts at h.3,
    )

-- each of them ends before they stop
pub ends_before : (from : ℕ) (rest : List ℕ) (ts : List Token) (at : ℕ) → ScansFrom from rest ts at
    → All (λ t. t.loc.end ≤ at) ts
ends_before from rest [] at h = All-nil (λ t. t.loc.end ≤ at)
ends_before from rest (t ∷ ts) at h =
    All-cons (λ t. t.loc.end ≤ at) t ts (stops_behind t.loc.end (drop h.1 h.0) ts at h.3)
    (ends_before t.loc.end (drop h.1 h.0) ts at h.3)

-- the last token starts behind the place from which they are read
starts_behind : (from : ℕ) (rest : List ℕ) (ts : List Token) (t : Token) (at : ℕ)
    → ScansFrom from rest (ts ++ t ∷ []) at → from ≤ t.loc.start
starts_behind from rest [] t at h = omega (arith, h.2.start, skips_shorter h.2.skips)
starts_behind from rest (u ∷ us) t at h =
    omega (arith, h.2.start, h.2.stop, skips_shorter h.2.skips, starts_behind u.loc.end (drop h.1 h.0) us t at h.3)

-- one list as two others joined
pub record Split (pre tail front here : List ℕ) : Type 0 where
  pub middle : List ℕ
  pub left : pre ≡ front ++ middle
  pub right : here ≡ middle ++ tail

split_again : (pre tail front here : List ℕ) → pre ++ tail ≡ front ++ here → length front ≤ length pre
    → Split pre tail front here
split_again pre tail [] here e l = record { middle = pre; left = refl; right = sym e }
split_again [] tail (x ∷ front) here e l = absurd (omega arith)
split_again (y ∷ pre) tail (x ∷ front) here e l =
    let same : y ≡ x = cc in
    let below : pre ++ tail ≡ front ++ here = cc in
    let s = split_again pre tail front here below (omega arith) in
    record { middle = s.middle; left = λ i. same i ∷ s.left i; right = s.right }

ends_line : (after tail : List ℕ) → EndsLine (after ++ tail) → EndsLine after
ends_line [] tail h = tt
ends_line (b ∷ bs) tail h = h

cut_blank : (b after tail : List ℕ) → IsBlank b (after ++ tail) → IsBlank b after
cut_blank b after tail (inl s) = inl s
cut_blank b after tail (inr s) = inr (s.0, s.1, s.2, ends_line after tail s.3)

-- blanks stay where the text behind is cut off
cut_skips : {rest here : List ℕ} → Skips rest here → (p q tail : List ℕ) → rest ≡ p ++ tail → here ≡ q ++ tail
    → Skips p q
cut_skips (none {rest}) p q tail e f =
    subst (λ x. Skips p x) (append_cancel_right p q tail (sym e ∙ f)) none
cut_skips (more {rest} {after} {end} b s) p q tail e f =
    let g = skips_front s in
    let behind : after ≡ (g.0 ++ q) ++ tail = g.1 ∙ ap (λ x. g.0 ++ x) f ∙ sym (append_assoc g.0 q tail) in
    let whole : p ++ tail ≡ (b.0 ++ (g.0 ++ q)) ++ tail =
    sym e ∙ b.1 ∙ ap (λ x. b.0 ++ x) behind ∙ sym (append_assoc b.0 (g.0 ++ q) tail) in
    let blank : IsBlank b.0 (g.0 ++ q) = cut_blank b.0 (g.0 ++ q) tail (subst (λ x. IsBlank b.0 x) behind b.2) in
    more (b.0, append_cancel_right p (b.0 ++ (g.0 ++ q)) tail whole, blank) (cut_skips s (g.0 ++ q) q tail behind f)

-- a token stays the longest where the text behind is cut off
cut_longest : (here tail : List ℕ) (k : TokenKind) (n : ℕ) → IsLongest (here ++ tail) k n → n ≤ length here
    → IsLongest here k n
cut_longest here tail k n h l = record {
  in_range = l;
  form = subst (λ w. IsForm w k) (take-append-le n here tail l) h.form;
  longest = λ m j r f. h.longest m j (omega (arith, length-append here tail))
      (subst (λ w. IsForm w j) (sym (take-append-le m here tail r)) f);
}

-- the text in front of the last token has the tokens before it, and no more
pub cut_scan : (from : ℕ) (pre tail : List ℕ) (ts : List Token) (t : Token) (at : ℕ)
    → ScansFrom from (pre ++ tail) (ts ++ t ∷ []) at → t.loc.start ≡ from + length pre
    → ScansFrom from pre ts t.loc.start
cut_scan from pre tail [] t at h s =
    let f = skips_front h.2.skips in
    let size : length h.0 ≡ length tail = omega (arith, h.2.start, length-append pre tail) in
    let front : length f.0 ≤ length pre =
    omega (arith, ap length f.1, length-append f.0 h.0, length-append pre tail) in
    let split = split_again pre tail f.0 h.0 f.1 front in
    let nothing : split.middle ≡ [] = empty split.middle
    (omega (arith, ap length split.right, length-append split.middle tail)) in
    let here : h.0 ≡ [] ++ tail = split.right ∙ ap (λ x. x ++ tail) nothing in (
      [],
      cut_skips h.2.skips pre [] tail refl here,
      omega (arith, s),
      NoBlank-nil,
      NoForm-nil,
    )
  where
    empty : (xs : List ℕ) → length xs ≡ 0 → xs ≡ []
    empty [] e = refl
    empty (x ∷ xs) e = absurd (omega arith)
cut_scan from pre tail (u ∷ us) t at h s =
    let f = skips_front h.2.skips in
    let last : u.loc.end ≤ t.loc.start = starts_behind u.loc.end (drop h.1 h.0) us t at h.3 in
    let front : length f.0 ≤ length pre =
    omega (arith, ap length f.1, length-append f.0 h.0, length-append pre tail, h.2.start, h.2.stop, last) in
    let split = split_again pre tail f.0 h.0 f.1 front in
    let here = split.middle in
    let size : length h.0 ≡ length here + length tail = ap length split.right ∙ length-append here tail in
    let room : h.1 ≤ length here =
    omega (arith, size, h.2.start, h.2.stop, last, length-append pre tail) in
    let next : IsNext from pre u here h.1 = record {
      skips = cut_skips h.2.skips pre here tail refl split.right;
      token = cut_longest here tail u.kind h.1 (subst (λ x. IsLongest x u.kind h.1) split.right h.2.token) room;
      start = omega (arith, h.2.start, size, length-append pre tail);
      stop = h.2.stop;
    } in
    let rest : drop h.1 h.0 ≡ drop h.1 here ++ tail =
    ap (λ x. drop h.1 x) split.right ∙ drop-append-le h.1 here tail room in
    let place : t.loc.start ≡ u.loc.end + length (drop h.1 here) =
    omega (arith, s, h.2.start, h.2.stop, size, length-drop h.1 here, length-append pre tail) in (
      here,
      h.1,
      next,
      cut_scan u.loc.end (drop h.1 here) tail us t at
          (subst (λ x. ScansFrom u.loc.end x (us ++ t ∷ []) at) rest h.3) place,
    )

-- each token starts before it ends
pub in_order : (from : ℕ) (rest : List ℕ) (ts : List Token) (at : ℕ) → ScansFrom from rest ts at
    → All (λ t. t.loc.start ≤ t.loc.end) ts
in_order from rest [] at h = All-nil (λ t. t.loc.start ≤ t.loc.end)
in_order from rest (t ∷ ts) at h =
    All-cons (λ t. t.loc.start ≤ t.loc.end) t ts (omega (arith, h.2.stop))
    (in_order t.loc.end (drop h.1 h.0) ts at h.3)
