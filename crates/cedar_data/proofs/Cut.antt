-- A text whose end is taken off.
use Rattle.std.proofs.Common.{◌≡◌, ℕ, List, [], ◌∷◌, ◌++◌, take, true, ap, sym, subst, ◌∙◌, refl}
use lib.Utf8.{scalar, scalars}
use Rattle.std.specs.Cmp.{first_so, second_so}
use Rattle.std.specs.Str.{IsUtf8, IsCharBoundary, chars, encode_utf8_all}
use Rattle.std.specs.String.Boundary.{IsSplitPoint}
use Rattle.std.proofs.lemmas.Bool.{and_from}
use Rattle.std.proofs.lemmas.List.{take_at}
use Rattle.std.proofs.lemmas.Str.{encodes-chars, scalars-chars, encodes-append, chars-encodes, IsCharBoundary-at_seam}
use Rattle.cedar_data.specs.Text.{IsTextFront}

front_scalars : (xs ys : List ℕ) → scalars (xs ++ ys) ≡ true → scalars xs ≡ true
front_scalars [] ys h = refl
front_scalars (x ∷ xs) ys h =
    and_from (scalar x) (scalars xs) (first_so (scalar x) (scalars (xs ++ ys)) h)
    (front_scalars xs ys (second_so (scalar x) (scalars (xs ++ ys)) h))

back_scalars : (xs ys : List ℕ) → scalars (xs ++ ys) ≡ true → scalars ys ≡ true
back_scalars [] ys h = h
back_scalars (x ∷ xs) ys h = back_scalars xs ys (second_so (scalar x) (scalars (xs ++ ys)) h)

module _ (bytes : List ℕ) (utf8 : IsUtf8 bytes) (len : ℕ) (front : List ℕ)
    (is : IsTextFront (chars bytes) len front) where
  split : bytes ≡ encode_utf8_all front ++ encode_utf8_all is.0
  split = sym (encodes-chars bytes utf8) ∙ ap encode_utf8_all is.1 ∙ encodes-append front is.0

  are_scalars : scalars (front ++ is.0) ≡ true
  are_scalars = subst (λ cs. scalars cs ≡ true) is.1 (scalars-chars bytes utf8)

  -- the place is one between two characters
  pub cut_place : IsSplitPoint bytes len
  cut_place =
      let back_utf8 : IsUtf8 (encode_utf8_all is.0) = (is.0, (back_scalars front is.0 are_scalars, refl)) in
      let place : IsCharBoundary bytes len = subst (IsCharBoundary bytes) is.2
      (IsCharBoundary-at_seam bytes (encode_utf8_all front) (encode_utf8_all is.0) split back_utf8) in
      (place.0, λ positive within high. place.1 within high)

  -- what stands before it
  pub cut_front : chars (take len bytes) ≡ front
  cut_front =
      ap (λ bs. chars (take len bs)) split
      ∙ ap chars (take_at (encode_utf8_all front) (encode_utf8_all is.0) len is.2)
      ∙ chars-encodes front (front_scalars front is.0 are_scalars)
