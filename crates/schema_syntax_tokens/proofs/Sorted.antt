-- Two bodies that stand for something, what is left of them, and that their orders agree.
use Rattle.std.proofs.Common.{◌≡◌, ℕ, List, [], ◌∷◌, ◌++◌, ◌<◌, length, refl, sym, ap, ◌∙◌, arith}
use Rattle.std.specs.Char.{encode_utf8}
use Rattle.std.specs.Str.{encode_utf8_all}
use Rattle.std.proofs.lemmas.List.{append-nil}
use Rattle.std.proofs.lemmas.Str.{encode_same, length-encode, len_utf8_bounds}
use Rattle.std.proofs.lemmas.Bool.Decides.{nat_tests}
use Rattle.cedar_data.specs.Text.{text_cmp}
use Rattle.std.specs.Cmp.Lexicographic.{slice_cmp}
use Rattle.std.specs.Ordering.{nat_cmp, ordering_then}
use Rattle.std.specs.declared.cmp.Ordering.{Ordering}
use Rattle.std.specs.declared.cmp.Ordering.TheVariants.{Less, Equal, Greater}
use Rattle.schema_syntax_tokens.specs.Escapes.{Unescapes}
use Rattle.schema_syntax_tokens.specs.Values.{Begins, NoPiece}
use Rattle.schema_syntax_tokens.proofs.Gone.{value_none, value_some}

-- what is left of two bodies is ordered as they are
abbrev pub AreOrdered : (left right one other : List ℕ) → Type 0
AreOrdered left right one other =
    (v w : List ℕ) → Unescapes left v → Unescapes right w
    → (x : List ℕ) × (y : List ℕ) × Unescapes one x × Unescapes other y × (text_cmp v w ≡ text_cmp x y)

pub AreOrdered-both : (left right one other : List ℕ) → AreOrdered left right one other → NoPiece one → NoPiece other
    → (v w : List ℕ) → Unescapes left v → Unescapes right w → Equal ≡ text_cmp v w
AreOrdered-both left right one other r n m v w h k =
    let s = r v w h k in
    sym (s.4 ∙ (λ i. text_cmp (value_none one s.0 n s.2 i) (value_none other s.1 m s.3 i)))

-- a character is more than the end
more_than_none : (w us : List ℕ) → 0 < length w → slice_cmp nat_cmp (w ++ us) [] ≡ Greater
more_than_none [] us l = absurd (omega arith)
more_than_none (b ∷ bs) us l = refl

less_than_some : (w us : List ℕ) → 0 < length w → slice_cmp nat_cmp [] (w ++ us) ≡ Less
less_than_some [] us l = absurd (omega arith)
less_than_some (b ∷ bs) us l = refl

some_bytes : (c : ℕ) → 0 < length (encode_utf8 c)
some_bytes c = omega (arith, length-encode c, (len_utf8_bounds c).0)

pub AreOrdered-first : (left right one other after : List ℕ) (c : ℕ) → AreOrdered left right one other
    → Begins one c after → NoPiece other → (v w : List ℕ) → Unescapes left v → Unescapes right w
    → Greater ≡ text_cmp v w
AreOrdered-first left right one other after c r b m v w h k =
    let s = r v w h k in
    let x = value_some one after s.0 c b s.2 in
    let more : text_cmp (c ∷ x.0) [] ≡ Greater = more_than_none (encode_utf8 c) (encode_utf8_all x.0) (some_bytes c) in
    sym (s.4 ∙ ((λ i. text_cmp (x.1 i) (value_none other s.1 m s.3 i)) ∙ more))

pub AreOrdered-second : (left right one other after : List ℕ) (c : ℕ) → AreOrdered left right one other → NoPiece one
    → Begins other c after → (v w : List ℕ) → Unescapes left v → Unescapes right w
    → Less ≡ text_cmp v w
AreOrdered-second left right one other after c r n b v w h k =
    let s = r v w h k in
    let y = value_some other after s.1 c b s.3 in
    let less : text_cmp [] (c ∷ y.0) ≡ Less = less_than_some (encode_utf8 c) (encode_utf8_all y.0) (some_bytes c) in
    sym (s.4 ∙ ((λ i. text_cmp (value_none one s.0 n s.2 i) (y.1 i)) ∙ less))

-- lists none of which begins the other decide by themselves, and else what follows them does
then_front : (o p q r : Ordering) → (o ≡ Equal → p ≡ ordering_then q r)
    → ordering_then o p ≡ ordering_then (ordering_then o q) r
then_front Less p q r h = refl
then_front Equal p q r h = h refl
then_front Greater p q r h = refl

same_number : (x y : ℕ) → nat_cmp x y ≡ Equal → x ≡ y
same_number x y h = grind (arith, nat_tests)

fronts_decide : (xs ys us vs : List ℕ) → ((z : List ℕ) → ys ≡ xs ++ z → z ≡ [])
    → ((z : List ℕ) → xs ≡ ys ++ z → z ≡ [])
    → slice_cmp nat_cmp (xs ++ us) (ys ++ vs) ≡ ordering_then (slice_cmp nat_cmp xs ys) (slice_cmp nat_cmp us vs)
fronts_decide [] [] us vs h k = refl
fronts_decide [] (y ∷ ys) us vs h k = let e : y ∷ ys ≡ [] = h (y ∷ ys) refl in cc
fronts_decide (x ∷ xs) [] us vs h k = let e : x ∷ xs ≡ [] = k (x ∷ xs) refl in cc
fronts_decide (x ∷ xs) (y ∷ ys) us vs h k =
    then_front (nat_cmp x y) _ (slice_cmp nat_cmp xs ys) (slice_cmp nat_cmp us vs)
    (λ e. fronts_decide xs ys us vs (λ z f. h z (λ i. sym (same_number x y e) i ∷ f i))
    (λ z f. k z (λ i. same_number x y e i ∷ f i)))

chars_decide : (c d : ℕ) (us vs : List ℕ)
    → slice_cmp nat_cmp (encode_utf8 c ++ us) (encode_utf8 d ++ vs)
    ≡ ordering_then (slice_cmp nat_cmp (encode_utf8 c) (encode_utf8 d)) (slice_cmp nat_cmp us vs)
chars_decide c d us vs =
    fronts_decide (encode_utf8 c) (encode_utf8 d) us vs
    (λ z e. sym (encode_same d c [] z (append-nil (encode_utf8 d) ∙ e)).1)
    (λ z e. sym (encode_same c d [] z (append-nil (encode_utf8 c) ∙ e)).1)

-- the first characters, where their order is known
first_decides : (left right one other after behind : List ℕ) (c d : ℕ) (o : Ordering)
    → AreOrdered left right one other → Begins one c after → Begins other d behind
    → slice_cmp nat_cmp (encode_utf8 c) (encode_utf8 d) ≡ o
    → (v w : List ℕ) → Unescapes left v → Unescapes right w
    → (x : List ℕ) × (y : List ℕ) × Unescapes after x × Unescapes behind y
    × (text_cmp v w ≡ ordering_then o (text_cmp x y))
first_decides left right one other after behind c d o r a b e v w h k =
    let s = r v w h k in
    let x = value_some one after s.0 c a s.2 in
    let y = value_some other behind s.1 d b s.3 in
    let cut : text_cmp (c ∷ x.0) (d ∷ y.0)
    ≡ ordering_then (slice_cmp nat_cmp (encode_utf8 c) (encode_utf8 d)) (text_cmp x.0 y.0) =
    chars_decide c d (encode_utf8_all x.0) (encode_utf8_all y.0) in (
      x.0,
      y.0,
      x.2,
      y.2,
      s.4 ∙ ((λ i. text_cmp (x.1 i) (y.1 i))
          ∙ (cut ∙ ap (λ t. ordering_then t (text_cmp x.0 y.0)) e)),
    )

pub AreOrdered-less : (left right one other after behind : List ℕ) (c d : ℕ) → AreOrdered left right one other
    → Begins one c after → Begins other d behind → slice_cmp nat_cmp (encode_utf8 c) (encode_utf8 d) ≡ Less
    → (v w : List ℕ) → Unescapes left v → Unescapes right w
    → Less ≡ text_cmp v w
AreOrdered-less left right one other after behind c d r a b e v w h k =
    sym (first_decides left right one other after behind c d Less r a b e v w h k).4

pub AreOrdered-greater : (left right one other after behind : List ℕ) (c d : ℕ) → AreOrdered left right one other
    → Begins one c after → Begins other d behind → slice_cmp nat_cmp (encode_utf8 c) (encode_utf8 d) ≡ Greater
    → (v w : List ℕ) → Unescapes left v → Unescapes right w
    → Greater ≡ text_cmp v w
AreOrdered-greater left right one other after behind c d r a b e v w h k =
    sym (first_decides left right one other after behind c d Greater r a b e v w h k).4

pub AreOrdered-more : (left right one other after behind : List ℕ) (c d : ℕ) → AreOrdered left right one other
    → Begins one c after → Begins other d behind → slice_cmp nat_cmp (encode_utf8 c) (encode_utf8 d) ≡ Equal
    → AreOrdered left right after behind
AreOrdered-more left right one other after behind c d r a b e v w h k =
    first_decides left right one other after behind c d Equal r a b e v w h k
