-- The scan of a whole text, as far as it has come.
use Rattle.std.proofs.Common.{◌≡◌, ℕ, zero, suc, ◌+◌, ◌-◌, ◌<◌, ◌≤◌, List, [], ◌∷◌, ◌++◌, length, take, drop, refl, sym}
use Rattle.std.proofs.Common.{ap, ◌∙◌, subst, arith, slice_range}
use Rattle.std.specs.List.{All}
use Rattle.std.specs.Str.{IsUtf8, IsCharBoundary}
use Rattle.std.proofs.lemmas.List.{take-append-drop, length-take-le, length-append, length-drop, append_assoc}
use Rattle.std.proofs.lemmas.List.{append-nil, drop_at}
use Rattle.std.proofs.lemmas.List.Elements.{All-push}
use Rattle.std.proofs.lemmas.Str.{IsUtf8-drop, IsCharBoundary-at_seam}
use Rattle.schema_syntax_grammar.specs.declared.token_kind.TokenKind.{TokenKind}
use Rattle.schema_syntax_tokens.specs.declared.token.Token.{Token}
use Rattle.schema_syntax_tokens.specs.Forms.{IsForm}
use Rattle.schema_syntax_tokens.specs.Scans.{NoBlank, Skips, NoForm, IsLongest, IsNext, ScansFrom, Scans, IsPlaced}
use Rattle.schema_syntax_tokens.specs.Scans.Skips.{none, more}
use Rattle.schema_syntax_tokens.proofs.Longest.{no_form_nil}
use Rattle.schema_syntax_tokens.proofs.Ends.{boundary_after_token}

-- blanks stand in front of what follows them
pub skips_front : {rest here : List ℕ} → Skips rest here → (front : List ℕ) × (rest ≡ front ++ here)
skips_front none = ([], refl)
skips_front (more {rest} {after} {end} p s) =
    let f = skips_front s in
    (p.0 ++ f.0, p.1 ∙ (ap (λ t. p.0 ++ t) f.1 ∙ sym (append_assoc p.0 f.0 end)))

-- a token is no empty text
pub longest_some : (rest : List ℕ) (k : TokenKind) (n : ℕ) → IsLongest rest k n → 0 < n
longest_some rest k zero h = absurd (no_form_nil k h.form)
longest_some rest k (suc n) h = omega arith

-- The text ends in rest, the tokens stand in front of it, and whatever rest is scanned into follows them.
pub record HasScanned (text rest : List ℕ) (tokens : List Token) : Type 0 where
  pub front : List ℕ
  pub split : text ≡ front ++ rest
  pub more_follow : (ts : List Token) (at : ℕ) → ScansFrom (length text - length rest) rest ts at
      → Scans text (tokens ++ ts) at
  pub placed : All (IsPlaced text) tokens

-- a place in the text: what follows it begins length front bytes behind the start
at_rest : (text front rest : List ℕ) → text ≡ front ++ rest → length text ≡ length front + length rest
at_rest text front rest e = ap length e ∙ length-append front rest

is_placed : (text front here : List ℕ) (t : Token) (n : ℕ) → IsUtf8 here → text ≡ front ++ here
    → IsLongest here t.kind n
    → t.loc.start ≡ length front → t.loc.end ≡ t.loc.start + n → IsPlaced text t
is_placed text front here t n u e h s f =
    let after : IsUtf8 (drop n here) = IsUtf8-drop here n u (boundary_after_token here t.kind n u h) in
    let whole : text ≡ (front ++ take n here) ++ drop n here = e
    ∙ (ap (λ x. front ++ x) (sym (take-append-drop n here)) ∙ sym (append_assoc front (take n here) (drop n here))) in
    let size : length (front ++ take n here)
    ≡ t.loc.end = omega (arith, length-append front (take n here), length-take-le n here h.in_range) in
    let width : t.loc.end - t.loc.start ≡ n = omega arith in
    let there : slice_range text t.loc.start t.loc.end ≡ take n here =
    ap (λ m. take m (drop t.loc.start text)) width
    ∙ ap (λ x. take n x) (ap (λ m. drop m text) s
    ∙ (ap (λ x. drop (length front) x) e ∙ drop_at front here (length front) refl)) in
    record {
      in_order = omega (arith, longest_some here t.kind n h);
      start = subst (λ m. IsCharBoundary text m) (sym s) (IsCharBoundary-at_seam text front here e u);
      stop = subst (λ m. IsCharBoundary text m) size
          (IsCharBoundary-at_seam text (front ++ take n here) (drop n here) whole after);
      form = subst (λ w. IsForm w t.kind) (sym there) h.form;
    }

-- one more token
pub HasScanned-more : (text rest here after : List ℕ) (tokens : List Token) (t : Token) (n : ℕ)
    → HasScanned text rest tokens → IsUtf8 here → Skips rest here → IsLongest here t.kind n
    → after ≡ drop n here → t.loc.start + length here ≡ length text → t.loc.end ≡ t.loc.start + n
    → HasScanned text after (tokens ++ t ∷ [])
HasScanned-more text rest here after tokens t n h u s l e begins ends =
    let f = skips_front s in
    let front : List ℕ = h.front ++ f.0 in
    let split : text ≡ (h.front ++ f.0) ++ here = h.split
    ∙ (ap (λ x. h.front ++ x) f.1 ∙ sym (append_assoc h.front f.0 here)) in
    let whole : text ≡ ((h.front ++ f.0) ++ take n here) ++ after =
    split ∙ (ap (λ x. (h.front ++ f.0) ++ x) (sym (take-append-drop n here))
    ∙ (sym (append_assoc (h.front ++ f.0) (take n here) (drop n here))
    ∙ ap (λ x. ((h.front ++ f.0) ++ take n here) ++ x) (sym e))) in
    let at_here : length text ≡ length (h.front ++ f.0) + length here = at_rest text (h.front ++ f.0) here split in
    let at_old : length text ≡ length h.front + length rest = at_rest text h.front rest h.split in
    let size : length after ≡ length here - n = ap length e ∙ length-drop n here in
    let next : IsNext (length text - length rest) rest t here n = record
    { skips = s; token = l; start = omega arith; stop = ends } in
    let from : length text - length after ≡ t.loc.end = omega (arith, l.in_range) in
    record {
      front = (h.front ++ f.0) ++ take n here;
      split = whole;
      more_follow = λ ts at k.
          subst (λ us. Scans text us at) (sym (append_assoc tokens (t ∷ []) ts))
          (h.more_follow (t ∷ ts) at (
            here,
            n,
            next,
            subst (λ m. ScansFrom m (drop n here) ts at) from
                (subst (λ x. ScansFrom (length text - length after) x ts at) e k),
          ));
      placed = All-push (IsPlaced text) tokens t h.placed
          (is_placed text (h.front ++ f.0) here t n u split l (omega arith) ends);
    }

-- the end
pub HasScanned-all : (text rest here : List ℕ) (tokens : List Token) (at : ℕ) → HasScanned text rest tokens
    → Skips rest here → NoBlank here → NoForm here → at + length here ≡ length text → Scans text tokens at
HasScanned-all text rest here tokens at h s b f e =
    let at_old : length text ≡ length h.front + length rest = at_rest text h.front rest h.split in
    let stop : at + length here ≡ (length text - length rest) + length rest = omega arith in
    subst (λ us. Scans text us at) (append-nil tokens) (h.more_follow [] at (here, s, stop, b, f))

-- the text may be cut where the blanks end
pub boundary_here : (text rest here : List ℕ) (tokens : List Token) (at : ℕ) → HasScanned text rest tokens
    → IsUtf8 here → Skips rest here → at + length here ≡ length text → IsCharBoundary text at
boundary_here text rest here tokens at h u s e =
    let f = skips_front s in
    let split : text ≡ (h.front ++ f.0) ++ here = h.split
    ∙ (ap (λ x. h.front ++ x) f.1 ∙ sym (append_assoc h.front f.0 here)) in
    let at_here : length text ≡ length (h.front ++ f.0) + length here = at_rest text (h.front ++ f.0) here split in
    let same : length (h.front ++ f.0) ≡ at = omega arith in
    subst (λ m. IsCharBoundary text m) same (IsCharBoundary-at_seam text (h.front ++ f.0) here split u)

-- what is left to scan is no longer than the text
pub rest_in_range : (text rest here : List ℕ) (tokens : List Token) → HasScanned text rest tokens
    → length rest ≤ length text
rest_in_range text rest here tokens h = omega (arith, at_rest text h.front rest h.split)
