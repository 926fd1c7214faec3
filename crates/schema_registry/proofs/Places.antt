-- Items of lists by their places.
use Rattle.std.proofs.Common.{◌≡◌, ◌+◌, ◌<◌, ◌≤◌, ℕ, List, [], ◌∷◌, ◌++◌, map, length, Option, Some, None, refl, sym}
use Rattle.std.proofs.Common.{◌∙◌, ◌⊎◌, inl, inr, suc, zero, eq-or-lt_of_le, ap, subst, arith, slice_get, get_or}
use Rattle.std.proofs.Common.{length-append}
use Rattle.std.specs.Option.{option_map}
use Rattle.std.specs.List.{Contains, AllByRecursion}
use Rattle.std.proofs.lemmas.Option.{slice_get_within, slice_get-get_or, get_or_from_slice_get, slice_get-map}
use Rattle.std.proofs.Math.ListN.{get_or-append}
use Rattle.std.proofs.Math.Seq.{get_or-append_seam}

module _ {A : Type 0} where
  -- what stands at a place stands there when others follow
  pub in_front : (xs ys : List A) (i : ℕ) (x : A) → slice_get xs i ≡ Some x → slice_get (xs ++ ys) i ≡ Some x
  in_front xs ys i x is =
      let within = slice_get_within xs i x is in
      let all : length (xs ++ ys) ≡ length xs + length ys = length-append xs ys in
      let here : i < length (xs ++ ys) = omega (arith, within, all) in
      slice_get-get_or (xs ++ ys) i x here
      ∙ ap Some (get_or-append xs ys x i within ∙ get_or_from_slice_get xs i x x is)

  -- what is put behind all stands at the place that is their number
  pub at_end : (xs : List A) (x : A) → slice_get (xs ++ x ∷ []) (length xs) ≡ Some x
  at_end xs x =
      let all : length (xs ++ x ∷ []) ≡ length xs + 1 = length-append xs (x ∷ []) in
      let here : length xs < length (xs ++ x ∷ []) = omega (arith, all) in
      slice_get-get_or (xs ++ x ∷ []) (length xs) x here ∙ ap Some (get_or-append_seam xs x [] x)

  -- what stands in a list with one more stands in the list, or is that one
  pub last_or_before : (xs : List A) (y : A) (i : ℕ) (x : A) → slice_get (xs ++ y ∷ []) i ≡ Some x
      → (slice_get xs i ≡ Some x) ⊎ ((i ≡ length xs) × (x ≡ y))
  last_or_before xs y i x is =
      let within = slice_get_within (xs ++ y ∷ []) i x is in
      let all : length (xs ++ y ∷ []) ≡ length xs + 1 = length-append xs (y ∷ []) in
      let most : i ≤ length xs = omega (arith, within, all) in
      elim (eq-or-lt_of_le most) [
        | inl here ↦ inr (
          here,
          sym (get_or_from_slice_get (xs ++ y ∷ []) i x x is)
              ∙ (ap (λ k. get_or (xs ++ y ∷ []) k x) here ∙ get_or-append_seam xs y [] x),
        )
        | inr before ↦
            inl (slice_get-get_or xs i x before
            ∙ ap Some (sym (get_or-append xs (y ∷ []) x i before)
            ∙ get_or_from_slice_get (xs ++ y ∷ []) i x x is))
      ]

  -- an item at a place is contained
  pub contained : (xs : List A) (i : ℕ) (x : A) → slice_get xs i ≡ Some x → Contains xs x
  contained xs i x is = (i, slice_get_within xs i x is, get_or_from_slice_get xs i x x is)

  -- what holds of each item holds of the one at a place
  pub all_at : (P : A → Type 0) (xs : List A) (i : ℕ) (x : A) → AllByRecursion P xs → slice_get xs i ≡ Some x → P x
  all_at P xs i x all is =
      subst P (get_or_from_slice_get xs i x x is) (go xs i x all (slice_get_within xs i x is)) where
        go : (ys : List A) (k : ℕ) (d : A) → AllByRecursion P ys → k < length ys → P (get_or ys k d)
        go [] k d h less = absurd (omega (arith, less))
        go (y ∷ ys) zero d h less = h.0
        go (y ∷ ys) (suc k) d h less = go ys k d h.1 (let l : suc k < length (y ∷ ys) = less in omega (arith, l))

-- what stands in a list of images is the image of what stands there
pub image_at : {A B : Type 0} (f : A → B) (xs : List A) (i : ℕ) (y : B) → slice_get (map f xs) i ≡ Some y
    → (x : A) × (slice_get xs i ≡ Some x) × (f x ≡ y)
image_at {A} {B} f xs i y is = go (slice_get xs i) refl where
  go : (o : Option A) → slice_get xs i ≡ o → (x : A) × (slice_get xs i ≡ Some x) × (f x ≡ y)
  go None e = let k : None ≡ Some y = sym (slice_get-map f xs i ∙ ap (option_map f) e) ∙ is in cc
  go (Some x) e =
      let k : Some (f x) ≡ Some y = sym (slice_get-map f xs i ∙ ap (option_map f) e) ∙ is in
      (x, e, (let s : f x ≡ y = cc in s))
