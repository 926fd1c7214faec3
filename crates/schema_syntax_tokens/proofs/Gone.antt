-- What stands behind the first piece of a body.
use Rattle.std.proofs.Common.{◌≡◌, ◌≢◌, ℕ, true, false, ◌&&◌, nat_eq, List, [], ◌∷◌, ◌++◌, length, take, drop, refl}
use Rattle.std.proofs.Common.{sym, ap, ◌∙◌, subst, inl, inr, arith}
use Rattle.std.specs.Char.{encode_utf8}
use Rattle.std.specs.List.{prefix_len}
use Rattle.std.specs.Str.{IsUtf8, IsCharBoundary}
use Rattle.std.specs.Cmp.Lexicographic.{pointwise}
use Rattle.std.proofs.lemmas.List.{take-append-drop, append-nil}
use Rattle.std.proofs.lemmas.Str.{encode_ascii, IsUtf8-take, IsUtf8-drop}
use Rattle.std.proofs.lemmas.Bool.{eq-eqb, ne_eqb}
use Rattle.schema_syntax_tokens.specs.Escapes.{Unescapes, IsEscapeTo, NoEscape}
use Rattle.schema_syntax_tokens.specs.Steps.{is_unescaped}
use Rattle.schema_syntax_tokens.specs.Values.{Begins, NoPiece, HasValue}
use Rattle.schema_syntax_tokens.proofs.Pieces.{HasUnescaped, HasUnescaped-plain, boundary_at_backslash}
use Rattle.schema_syntax_tokens.proofs.Values.{some_and_none, same_piece, backslash_is}

pub begins_escape : (rest after : List ℕ) (n c : ℕ) → IsEscapeTo rest n c → after ≡ drop n rest → Begins rest c after
begins_escape rest after n c h e =
    (take n rest, inr h.escape, sym (take-append-drop n rest) ∙ ap (λ t. take n rest ++ t) (sym e))

pub no_piece_nil : (rest : List ℕ) → length rest ≡ 0 → NoPiece rest
no_piece_nil [] l c piece after s e = some_and_none piece after c s e
no_piece_nil (b ∷ bs) l c piece after s e = absurd (omega arith)

pub no_piece_stuck : (rest behind : List ℕ) → rest ≡ encode_utf8 92 ++ behind → NoEscape rest → NoPiece rest
no_piece_stuck rest behind e n c piece after (inl s) f =
    let first : encode_utf8 c ++ after ≡ 92 ∷ behind = ap (λ t. t ++ after) (sym s.0)
    ∙ (sym f ∙ (e ∙ ap (λ t. t ++ behind) (encode_ascii 92 (omega arith)))) in
    s.1 (backslash_is c after behind first)
no_piece_stuck rest behind e n c piece after (inr s) f = n piece after c f s

-- a body that stands for something, and begins with no piece, is empty
pub value_none : (rest v : List ℕ) → NoPiece rest → Unescapes rest v → v ≡ []
value_none rest [] n h = refl
value_none rest (c ∷ cs) n h = absurd (n c h.0 h.1 h.3 h.2)

-- and one that begins with a piece stands for its character first
pub value_some : (rest after v : List ℕ) (c : ℕ) → Begins rest c after → Unescapes rest v
    → (w : List ℕ) × (v ≡ c ∷ w) × Unescapes after w
value_some rest after [] c b h = absurd (some_and_none b.0 after c b.1 (sym h ∙ b.2))
value_some rest after (d ∷ ds) c b h =
    let same = same_piece h.0 b.0 h.1 after d c h.3 b.1 (sym h.2 ∙ b.2) in
    (ds, ap (λ x. x ∷ ds) same.0, subst (λ t. Unescapes t ds) same.1 h.4)

-- two bodies that stand for something, what is left of them, and that the tests agree
abbrev pub AreLeft : (left right one other : List ℕ) → Type 0
AreLeft left right one other =
    (v w : List ℕ) → Unescapes left v → Unescapes right w
    → (x : List ℕ) × (y : List ℕ) × Unescapes one x × Unescapes other y × (pointwise nat_eq v w ≡ pointwise nat_eq x y)

pub AreLeft-both : (left right one other : List ℕ) → AreLeft left right one other → NoPiece one → NoPiece other
    → (v w : List ℕ) → Unescapes left v → Unescapes right w → true ≡ pointwise nat_eq v w
AreLeft-both left right one other r n m v w h k =
    let s = r v w h k in
    sym (s.4 ∙ (λ i. pointwise nat_eq (value_none one s.0 n s.2 i) (value_none other s.1 m s.3 i)))

pub AreLeft-first : (left right one other after : List ℕ) (c : ℕ) → AreLeft left right one other → Begins one c after
    → NoPiece other → (v w : List ℕ) → Unescapes left v → Unescapes right w → false ≡ pointwise nat_eq v w
AreLeft-first left right one other after c r b m v w h k =
    let s = r v w h k in
    sym (s.4 ∙ (λ i. pointwise nat_eq ((value_some one after s.0 c b s.2).1 i) (value_none other s.1 m s.3 i)))

pub AreLeft-second : (left right one other after : List ℕ) (c : ℕ) → AreLeft left right one other → NoPiece one
    → Begins other c after → (v w : List ℕ) → Unescapes left v → Unescapes right w → false ≡ pointwise nat_eq v w
AreLeft-second left right one other after c r n b v w h k =
    let s = r v w h k in
    sym (s.4 ∙ (λ i. pointwise nat_eq (value_none one s.0 n s.2 i) ((value_some other after s.1 c b s.3).1 i)))

pub AreLeft-differ : (left right one other after behind : List ℕ) (c d : ℕ) → AreLeft left right one other
    → Begins one c after → Begins other d behind → c ≢ d → (v w : List ℕ) → Unescapes left v → Unescapes right w
    → false ≡ pointwise nat_eq v w
AreLeft-differ left right one other after behind c d r a b ne v w h k =
    let s = r v w h k in
    let x = value_some one after s.0 c a s.2 in
    let y = value_some other behind s.1 d b s.3 in
    sym (s.4 ∙ ((λ i. pointwise nat_eq (x.1 i) (y.1 i)) ∙ ap (λ t. t && pointwise nat_eq x.0 y.0) (ne_eqb c d ne)))

pub AreLeft-more : (left right one other after behind : List ℕ) (c d : ℕ) → AreLeft left right one other
    → Begins one c after → Begins other d behind → c ≡ d → AreLeft left right after behind
AreLeft-more left right one other after behind c d r a b e v w h k =
    let s = r v w h k in
    let x = value_some one after s.0 c a s.2 in
    let y = value_some other behind s.1 d b s.3 in (
      x.0,
      y.0,
      x.2,
      y.2,
      s.4 ∙ ((λ i. pointwise nat_eq (x.1 i) (y.1 i))
          ∙ ap (λ t. t && pointwise nat_eq x.0 y.0) (eq-eqb c d e)),
    )

-- the bytes up to the next backslash are gone over
pub past_plain : (body rest plain after written : List ℕ) (n : ℕ) → IsUtf8 rest → HasUnescaped body rest written
    → n ≡ prefix_len is_unescaped rest → plain ≡ take n rest → after ≡ drop n rest
    → HasUnescaped body after (written ++ plain) × IsUtf8 after
past_plain body rest plain after written n u h e p a =
    let cut : IsCharBoundary rest n = boundary_at_backslash rest n e in (
      HasUnescaped-plain body rest plain after written n h e p a
          (subst (λ t. IsUtf8 t) (sym p) (IsUtf8-take rest n u cut)),
      subst (λ t. IsUtf8 t) (sym a) (IsUtf8-drop rest n u cut),
    )

-- nothing is left
pub all_gone : (body rest written : List ℕ) → HasUnescaped body rest written → length rest ≡ 0 → HasValue body
all_gone body [] written h l =
    (h.value, subst (λ t. Unescapes t h.value) (sym (h.split ∙ append-nil h.front)) h.stands_for)
all_gone body (b ∷ bs) written h l = absurd (omega arith)
