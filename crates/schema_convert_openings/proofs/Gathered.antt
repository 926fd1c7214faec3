-- What is gathered of a list's items, one after the other.
use Rattle.std.proofs.Common.{◌≡◌, ℕ, suc, ◌+◌, ◌<◌, ◌≤◌, List, [], ◌∷◌, ◌++◌, length, get_or, drop, map, Option, Some}
use Rattle.std.proofs.Common.{None, refl, sym, ap, ◌∙◌, append_assoc, append-nil, drop-cons, add-one, arith}
use Rattle.std.specs.List.{cons_option}
use Rattle.std.specs.Option.{option_to_list}
use Rattle.std.proofs.lemmas.List.{drop_all, map-append}

-- g gathers f of each item
module _ {A B : Type 0} (g : List A → List B) (f : A → List B) (nil : g [] ≡ [])
    (cons : (x : A) (xs : List A) → g (x ∷ xs) ≡ f x ++ g xs) where
  -- one item more
  pub more : (done done' : List B) (left left' : List A) (x : A) (all : List B) → done ++ g left ≡ all
      → left ≡ x ∷ left' → done' ≡ done ++ f x → done' ++ g left' ≡ all
  more done done' left left' x all h e p =
      ap (λ l. l ++ g left') p ∙ (append_assoc done (f x) (g left')
      ∙ (ap (λ l. done ++ l) (sym (cons x left')) ∙ (ap (λ l. done ++ g l) (sym e) ∙ h)))

  -- and no item left
  pub over : (done : List B) (left : List A) (all : List B) → done ++ g left ≡ all → length left ≡ 0 → done ≡ all
  over done [] all h e = sym (append-nil done) ∙ (ap (λ l. done ++ l) (sym nil) ∙ h)
  over done (x ∷ left) all h e = absurd (omega arith)

  -- all are gathered, where an index counts them
  pub more_at : (done done' : List B) (xs : List A) (i : ℕ) (x : A) (all : List B) → done ++ g (drop i xs) ≡ all
      → i < length xs → x ≡ get_or xs i x → done' ≡ done ++ f x → done' ++ g (drop (i + 1) xs) ≡ all
  more_at done done' xs i x all h lt e p =
      more done done' (drop i xs) (drop (i + 1) xs) x all h
      (drop-cons xs i x lt ∙ (ap (λ y. y ∷ drop (suc i) xs) (sym e) ∙ ap (λ j. x ∷ drop j xs) (sym (add-one i)))) p

  pub over_at : (done : List B) (xs : List A) (i : ℕ) (all : List B) → done ++ g (drop i xs) ≡ all → length xs ≤ i
      → done ≡ all
  over_at done xs i all h le = sym (append-nil done)
      ∙ (ap (λ l. done ++ l) (sym nil) ∙ (ap (λ l. done ++ g l) (sym (drop_all i xs le)) ∙ h))

-- what is there of an optional item
pub consed : {B : Type 0} (o : Option B) (ys : List B) → cons_option o ys ≡ option_to_list o ++ ys
consed None ys = refl
consed (Some y) ys = refl

-- one entry more
pub pushed_now : {A B : Type 0} (f : A → B) (done done' : List A) (a : A) (b : B) → done' ≡ done ++ a ∷ [] → f a ≡ b
    → map f done' ≡ map f done ++ b ∷ []
pushed_now f done done' a b e p = ap (map f) e ∙ (map-append f done (a ∷ []) ∙ ap (λ x. map f done ++ x ∷ []) p)
