-- Comparisons of words and names, by their texts.
use Rattle.std.proofs.Common.{◌≡◌, ◌↔◌, ℕ, Bool, true, ◌&&◌, List, [], ◌∷◌, refl, sym, ap, ◌∙◌}
use Rattle.std.specs.declared.cmp.Ordering.{Ordering}
use Rattle.std.specs.Cmp.{first_so, second_so}
use Rattle.std.specs.Cmp.Lexicographic.{slice_cmp, pointwise}
use Rattle.std.specs.Cmp.Derive.Mapped.{lex_map}
use Rattle.std.specs.Str.{bytes_eq, encode_utf8_all}
use Rattle.std.proofs.lemmas.Slice.Eq.{bytes_eq-Decides}
use Rattle.std.proofs.lemmas.Bool.{and_from}
use Rattle.cedar_data.specs.Text.{text_cmp}
use Rattle.cedar_data.specs.Words.{is_word}
use Rattle.cedar_data.proofs.Ascii.{word_bytes}
use Rattle.cedar_identifiers.specs.Names.{texts_of}
use Rattle.cedar_identifiers.specs.declared.id.Id.{Id}
use Rattle.cedar_identifiers.proofs.Ids.{id_is_word}

-- whether two texts have the same bytes
abbrev pub same : List ℕ → List ℕ → Bool
same v w = bytes_eq (encode_utf8_all v) (encode_utf8_all w)

-- words with the same bytes are the same
pub same_words : (v w : List ℕ) → is_word v ≡ true → is_word w ≡ true → (same v w ≡ true) ↔ (v ≡ w)
same_words v w h k = (
  λ e. sym (word_bytes v h) ∙ ((bytes_eq-Decides (encode_utf8_all v) (encode_utf8_all w)).0 e ∙ word_bytes w k),
  λ e. (bytes_eq-Decides (encode_utf8_all v) (encode_utf8_all w)).1 (ap encode_utf8_all e),
)

-- ids in turn, by their texts
pub ids_cmp : (C : Id → Id → Ordering) → ((x y : Id) → C x y ≡ text_cmp x.text y.text) → (xs ys : List Id)
    → slice_cmp C xs ys ≡ slice_cmp text_cmp (texts_of xs) (texts_of ys)
ids_cmp C e xs ys = (λ i. slice_cmp (λ x y. e x y i) xs ys) ∙ sym (lex_map (λ j. j.text) text_cmp xs ys)

ids_to : (E : Id → Id → Bool) → ((x y : Id) → E x y ≡ same x.text y.text) → (xs ys : List Id)
    → pointwise E xs ys ≡ true → texts_of xs ≡ texts_of ys
ids_to E e [] [] h = refl
ids_to E e [] (y ∷ ys) h = cc
ids_to E e (x ∷ xs) [] h = cc
ids_to E e (x ∷ xs) (y ∷ ys) h =
    let first : x.text ≡ y.text = (same_words x.text y.text (id_is_word x.text x.word) (id_is_word y.text y.word)).0
    (sym (e x y) ∙ first_so (E x y) (pointwise E xs ys) h) in
    let rest : texts_of xs ≡ texts_of ys = ids_to E e xs ys (second_so (E x y) (pointwise E xs ys) h) in
    cc

ids_from : (E : Id → Id → Bool) → ((x y : Id) → E x y ≡ same x.text y.text) → (xs ys : List Id)
    → texts_of xs ≡ texts_of ys → pointwise E xs ys ≡ true
ids_from E e [] [] h = refl
ids_from E e [] (y ∷ ys) h = cc
ids_from E e (x ∷ xs) [] h = cc
ids_from E e (x ∷ xs) (y ∷ ys) h =
    let first : x.text ≡ y.text = cc in
    let rest : texts_of xs ≡ texts_of ys = cc in
    and_from (E x y) (pointwise E xs ys)
    (e x y ∙ (same_words x.text y.text (id_is_word x.text x.word) (id_is_word y.text y.word)).1 first)
    (ids_from E e xs ys rest)

-- ids are equal in turn where their texts are
pub texts_equal : (E : Id → Id → Bool) → ((x y : Id) → E x y ≡ same x.text y.text) → (xs ys : List Id)
    → (pointwise E xs ys ≡ true) ↔ (texts_of xs ≡ texts_of ys)
texts_equal E e xs ys = (ids_to E e xs ys, ids_from E e xs ys)

-- names are equal where their components are
pub ids_equal : (E : Id → Id → Bool) → ((x y : Id) → E x y ≡ same x.text y.text) → (f g : Id) (xs ys : List Id)
    → ((same f.text g.text && pointwise E xs ys) ≡ true) ↔ (texts_of (f ∷ xs) ≡ texts_of (g ∷ ys))
ids_equal E e f g xs ys = (
  λ h. ids_to E e (f ∷ xs) (g ∷ ys)
      (and_from (E f g) (pointwise E xs ys) (e f g ∙ first_so (same f.text g.text) (pointwise E xs ys) h)
      (second_so (same f.text g.text) (pointwise E xs ys) h)),
  λ h. let all = ids_from E e (f ∷ xs) (g ∷ ys) h in
      and_from (same f.text g.text) (pointwise E xs ys) (sym (e f g) ∙ first_so (E f g) (pointwise E xs ys) all)
      (second_so (E f g) (pointwise E xs ys) all),
)
