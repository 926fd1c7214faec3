-- The tokens of a text stand at places of it, and each ends behind those before it.
use Rattle.std.proofs.Common.{◌≡◌, ℕ, ◌+◌, ◌-◌, ◌<◌, true, ◌&&◌, ◌==◌, cond, List, [], ◌∷◌, ◌++◌}
use Rattle.std.proofs.Common.{length, take, drop, get_or, Option, Some, None, refl, sym, ap, ◌∙◌, subst, inl, inr}
use Rattle.std.proofs.Common.{arith, slice_range, IsUtf8, if◌then◌else◌}
use Rattle.std.specs.List.{All, AllPass}
use Rattle.std.specs.Str.{IsCharBoundary}
use Rattle.std.proofs.lemmas.Bool.{cases_eq, ne_eqb, eq-eqb}
use Rattle.std.proofs.lemmas.List.{take-append-drop, length-take-le, length-append, append_assoc, get_or_at, drop_at}
use Rattle.std.proofs.lemmas.List.Elements.{All-nil, All-cons, All-head, All-tail, All-weaker}
use Rattle.std.proofs.lemmas.Str.{IsCharBoundary-before_ascii, IsCharBoundary-after_ascii}
use Rattle.cedar_data.specs.Words.{is_word_part}
use Rattle.cedar_data.proofs.Ascii.{part_ascii, start_ascii}
use Rattle.schema_syntax_grammar.specs.declared.token_kind.TokenKind.{TokenKind}
use Rattle.schema_syntax_grammar.specs.declared.token_kind.TokenKind.TheVariants.{PathSep}
use Rattle.schema_syntax_tokens.specs.declared.token.Token.{Token}
use Rattle.schema_syntax_tokens.specs.Forms.{single_mark, mark_kind, IsForm}
use Rattle.schema_syntax_tokens.specs.Scans.{IsLongest, ScansFrom, Scans, IsPlaced}
use Rattle.schema_syntax_tokens.proofs.Whole.{skips_front}

-- the bytes begin and end with one below 128
record Edges (w : List ℕ) : Type 0 where
  first : ℕ
  behind : List ℕ
  begins : w ≡ first ∷ behind
  first_ascii : first < 128
  front : List ℕ
  last : ℕ
  ends : w ≡ front ++ last ∷ []
  last_ascii : last < 128

mark_below : (b n : ℕ) (k : TokenKind) (x r : Option TokenKind) → n < 128 → (r ≡ Some k → b < 128)
    → (if b == n then x else r) ≡ Some k → b < 128
mark_below b n k x r lt there h = elim (cases_eq b n) [
  | inl e ↦ subst (λ m. m < 128) (sym e) lt
  | inr ne ↦ there (sym (ap (λ t. cond t x r) (ne_eqb b n ne)) ∙ h)
]

mark_ascii : (b : ℕ) (k : TokenKind) → single_mark b ≡ Some k → b < 128
mark_ascii b k h =
    mark_below b 64 k _ _ (omega arith) (mark_below b 44 k _ _ (omega arith) (mark_below b 59 k _ _ (omega arith)
    (mark_below b 58 k _ _ (omega arith) (mark_below b 40 k _ _ (omega arith) (mark_below b 41 k _ _ (omega arith)
    (mark_below b 123 k _ _ (omega arith) (mark_below b 125 k _ _ (omega arith) (mark_below b 91 k _ _ (omega arith)
    (mark_below b 93 k _ _ (omega arith) (mark_below b 60 k _ _ (omega arith) (mark_below b 62 k _ _ (omega arith)
    (mark_below b 63 k _ _ (omega arith) (mark_below b 61 k _ _ (omega arith) (λ e. cc)))))))))))))) h

-- a mark of two bytes has two colons
colons : (b c : ℕ) (k : TokenKind) → (if b == 58 && c == 58 then Some PathSep else None) ≡ Some k
    → (b < 128) × (c < 128)
colons b c k h = elim (cases_eq b 58) [
  | inl e ↦ elim (cases_eq c 58) [
    | inl f ↦ (omega arith, omega arith)
    | inr n ↦ absurd (let f : None
        ≡ Some k = sym (ap (λ t. cond t (Some PathSep) None) (ap (λ t. t && c == 58) (eq-eqb b 58 e) ∙ ne_eqb c 58 n))
        ∙ h in cc)
  ]
  | inr n ↦ absurd (let f : None ≡ Some k = sym (ap (λ t. cond (t && c == 58) (Some PathSep) None) (ne_eqb b 58 n))
      ∙ h in cc)
]

mark_edges : (w : List ℕ) (k : TokenKind) → mark_kind w ≡ Some k → Edges w
mark_edges [] k h = cc
mark_edges (b ∷ []) k h =
    let a = mark_ascii b k h in
    record { first = b; behind = []; begins = refl; first_ascii = a; front = []; last = b; ends = refl; last_ascii = a }
mark_edges (b ∷ c ∷ []) k h =
    let a = colons b c k h in
    record {
      first = b;
      behind = c ∷ [];
      begins = refl;
      first_ascii = a.0;
      front = b ∷ [];
      last = c;
      ends = refl;
      last_ascii = a.1;
    }
mark_edges (b ∷ c ∷ d ∷ bs) k h = cc

-- the last of bytes that may stand in a word
parts_end : (b : ℕ) (bs : List ℕ) → b < 128 → AllPass is_word_part bs
    → (front : List ℕ) × (last : ℕ) × (b ∷ bs ≡ front ++ last ∷ []) × (last < 128)
parts_end b [] p h = ([], b, refl, p)
parts_end b (c ∷ bs) p h =
    let r = parts_end c bs (part_ascii c (All-head (λ x. is_word_part x ≡ true) c bs h))
    (All-tail (λ x. is_word_part x ≡ true) c bs h) in
    (b ∷ r.0, r.1, ap (λ t. b ∷ t) r.2, r.3)

edges : (w : List ℕ) (k : TokenKind) → IsForm w k → Edges w
edges w k (inr (inl h)) = mark_edges w k h
edges w k (inr (inr h)) = record {
  first = 34;
  behind = h.0.0 ++ 34 ∷ [];
  begins = h.0.2;
  first_ascii = omega arith;
  front = 34 ∷ h.0.0;
  last = 34;
  ends = h.0.2;
  last_ascii = omega arith;
}
edges [] k (inl h) = absurd h.0
edges (b ∷ bs) k (inl h) =
    let a = start_ascii b h.0.0 in
    let r = parts_end b bs a h.0.1 in
    record {
      first = b;
      behind = bs;
      begins = refl;
      first_ascii = a;
      front = r.0;
      last = r.1;
      ends = r.2;
      last_ascii = r.3;
    }

-- a token that stands behind the front of the text
token_placed : (text front here : List ℕ) (t : Token) (n : ℕ) → IsUtf8 text → text ≡ front ++ here
    → IsLongest here t.kind n → t.loc.start ≡ length front → t.loc.end ≡ t.loc.start + n → IsPlaced text t
token_placed text front here t n u e h s f =
    let g = edges (take n here) t.kind h.form in
    let size : length (take n here) ≡ n = length-take-le n here h.in_range in
    let some : 0 < n = omega (arith, size, ap length g.begins) in
    let cut : here ≡ take n here ++ drop n here = sym (take-append-drop n here) in
    let at_first : text ≡ front ++ g.first ∷ (g.behind ++ drop n here) =
    e ∙ ap (λ x. front ++ x) (cut ∙ ap (λ x. x ++ drop n here) g.begins) in
    let at_last : text ≡ (front ++ g.front) ++ g.last ∷ drop n here =
    e ∙ ap (λ x. front ++ x) (cut ∙ ap (λ x. x ++ drop n here) g.ends
    ∙ append_assoc g.front (g.last ∷ []) (drop n here))
    ∙ sym (append_assoc front g.front (g.last ∷ drop n here)) in
    let whole : length text ≡ length front + length here = ap length e ∙ length-append front here in
    let first_byte : get_or text t.loc.start 0 ≡ g.first =
    ap (λ x. get_or x t.loc.start 0) at_first
    ∙ get_or_at front g.first (g.behind ++ drop n here) 0 t.loc.start (sym s) in
    let last_byte : get_or text (length (front ++ g.front)) 0 ≡ g.last =
    ap (λ x. get_or x (length (front ++ g.front)) 0) at_last
    ∙ get_or_at (front ++ g.front) g.last (drop n here) 0 (length (front ++ g.front)) refl in
    let last_at : length (front ++ g.front) + 1 ≡ t.loc.end =
    omega (arith, length-append front g.front, size, ap length g.ends, length-append g.front (g.last ∷ [])) in
    let width : t.loc.end - t.loc.start ≡ n = omega arith in
    let there : slice_range text t.loc.start t.loc.end ≡ take n here =
    ap (λ m. take m (drop t.loc.start text)) width
    ∙ ap (λ x. take n x) (ap (λ m. drop m text) s
    ∙ (ap (λ x. drop (length front) x) e ∙ drop_at front here (length front) refl)) in
    let in_range = h.in_range in
    record {
      in_order = omega arith;
      start = IsCharBoundary-before_ascii text t.loc.start (omega arith) (omega (arith, first_byte, g.first_ascii));
      stop = subst (λ m. IsCharBoundary text m) last_at
          (IsCharBoundary-after_ascii text (length (front ++ g.front)) u (omega (arith, last_at))
          (omega (arith, last_byte, g.last_ascii)));
      form = subst (λ w. IsForm w t.kind) (sym there) h.form;
    }

-- each token ends behind those before it
abbrev pub Mount : List Token → Type 0
Mount [] = Unit {0}
Mount (t ∷ ts) = All (λ s. t.loc.end < s.loc.end) ts × Mount ts

-- what is scanned behind the front of the text
record Stand (text : List ℕ) (from : ℕ) (ts : List Token) : Type 0 where
  placed : All (IsPlaced text) ts
  above : All (λ s. from < s.loc.end) ts
  mount : Mount ts

stand_from : (text : List ℕ) → IsUtf8 text → (front rest : List ℕ) (from : ℕ) (ts : List Token) (at : ℕ)
    → text ≡ front ++ rest → from ≡ length front → ScansFrom from rest ts at → Stand text from ts
stand_from text u front rest from [] at e l s =
    record { placed = All-nil (IsPlaced text); above = All-nil (λ s. from < s.loc.end); mount = tt }
stand_from text u front rest from (t ∷ ts) at e l s =
    let here = s.0 in
    let n = s.1 in
    let f = skips_front s.2.skips in
    let split : text ≡ (front ++ f.0) ++ here = e ∙ ap (λ x. front ++ x) f.1 ∙ sym (append_assoc front f.0 here) in
    let start : t.loc.start ≡ length (front ++ f.0) =
    omega (arith, s.2.start, l, ap length f.1, length-append f.0 here, length-append front f.0) in
    let this = token_placed text (front ++ f.0) here t n u split s.2.token start s.2.stop in
    let next : text ≡ ((front ++ f.0) ++ take n here) ++ drop n here =
    split ∙ ap (λ x. (front ++ f.0) ++ x) (sym (take-append-drop n here))
    ∙ sym (append_assoc (front ++ f.0) (take n here) (drop n here)) in
    let end : t.loc.end ≡ length ((front ++ f.0) ++ take n here) =
    omega (
      arith,
      start,
      s.2.stop,
      length-append (front ++ f.0) (take n here),
      length-take-le n here
          s.2.token.in_range,
    ) in
    let others = stand_from text u ((front ++ f.0) ++ take n here) (drop n here) t.loc.end ts at next end s.3 in
    let lt : from < t.loc.end = omega (arith, this.in_order, start, l, length-append front f.0) in
    record {
      placed = All-cons (IsPlaced text) t ts this others.placed;
      above = All-cons (λ s. from < s.loc.end) t ts lt
          (All-weaker (λ s. t.loc.end < s.loc.end) (λ s. from < s.loc.end) (λ s h. omega (arith, lt, h)) ts
          others.above);
      mount = (others.above, others.mount);
    }

pub scans_placed : (text : List ℕ) (ts : List Token) (at : ℕ) → IsUtf8 text → Scans text ts at → All (IsPlaced text) ts
scans_placed text ts at u s = (stand_from text u [] text 0 ts at refl refl s).placed

pub scans_mount : (text : List ℕ) (ts : List Token) (at : ℕ) → IsUtf8 text → Scans text ts at → Mount ts
scans_mount text ts at u s = (stand_from text u [] text 0 ts at refl refl s).mount
