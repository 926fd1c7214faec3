-- The last item that passes a test, of lists that are filtered, mapped, and reduced to the first of each.
use Rattle.std.proofs.Common.{◌≡◌, Bool, true, false, not, cond, List, [], ◌∷◌, ◌++◌, map, Option, Some, None}
use Rattle.std.proofs.Common.{option_map, filter, find, refl, sym, ap, subst, ◌∙◌, true≢false, if◌then◌else◌}
use Rattle.std.proofs.lemmas.Option.{same_Some}
use Rattle.std.specs.List.{AllZip, AllByRecursion}
use Rattle.std.specs.Option.{option_or}
use Rattle.cedar_data.proofs.Options.{or_none}
use Rattle.schema_convert_openings.specs.Joined.{first_of_each}

module _ {A : Type 0} (test : A → Bool) where
  -- the last item that passes
  abbrev pub last_of : List A → Option A
  last_of [] = None
  last_of (x ∷ xs) = option_or (last_of xs) (if test x then Some x else None)

  or_assoc : (a b c : Option A) → option_or a (option_or b c) ≡ option_or (option_or a b) c
  or_assoc None b c = refl
  or_assoc (Some x) b c = refl

  pub last_append : (xs ys : List A) → last_of (xs ++ ys) ≡ option_or (last_of ys) (last_of xs)
  last_append [] ys = sym (or_none (last_of ys))
  last_append (x ∷ xs) ys = ap (λ o. option_or o (if test x then Some x else None)) (last_append xs ys)
      ∙ sym (or_assoc (last_of ys) (last_of xs) (if test x then Some x else None))

  -- what holds of each item holds of the last that passes
  pub last_has : (P : A → Type 0) (xs : List A) (y : A) → AllByRecursion P xs → last_of xs ≡ Some y → P y
  last_has P [] y h e = cc
  last_has P (x ∷ xs) y h e = by (λ p. last_has P xs y h.1 p) (last_of xs) refl (test x) e
    where
      by : (last_of xs ≡ Some y → P y) → (o : Option A) → last_of xs ≡ o → (b : Bool)
          → option_or o (if b then Some x else None) ≡ Some y → P y
      by r None p true q = subst P (same_Some x y q) h.0
      by r None p false q = cc
      by r (Some z) p b q = r (p ∙ q)

  pub none_kept : (keep : A → Bool) → ((y : A) → test y ≡ true → keep y ≡ false) → (xs : List A)
      → last_of (filter keep xs) ≡ None
  none_kept keep h [] = refl
  none_kept keep h (x ∷ xs) = by (none_kept keep h xs) (test x) (keep x) refl refl
    where
      by : last_of (filter keep xs) ≡ None → (t k : Bool) → test x ≡ t → keep x ≡ k
          → last_of (cond k (x ∷ filter keep xs) (filter keep xs)) ≡ None
      by r true true p q = absurd (true≢false (sym q ∙ h x p))
      by r false true p q = ap (option_or (last_of (filter keep xs))) (ap (λ b. if b then Some x else None) p)
          ∙ (or_none (last_of (filter keep xs)) ∙ r)
      by r t false p q = r

  pub all_kept : (keep : A → Bool) → ((y : A) → test y ≡ true → keep y ≡ true) → (xs : List A)
      → last_of (filter keep xs) ≡ last_of xs
  all_kept keep h [] = refl
  all_kept keep h (x ∷ xs) = by (all_kept keep h xs) (test x) (keep x) refl refl
    where
      by : last_of (filter keep xs) ≡ last_of xs → (t k : Bool) → test x ≡ t → keep x ≡ k
          → last_of (cond k (x ∷ filter keep xs) (filter keep xs)) ≡ option_or (last_of xs) (if t then Some x else None)
      by r t true p q = ap (λ o. option_or o (if test x then Some x else None)) r
          ∙ ap (λ b. option_or (last_of xs) (if b then Some x else None)) p
      by r true false p q = absurd (true≢false (sym (h x p) ∙ q))
      by r false false p q = r ∙ sym (or_none (last_of xs))

  -- The first of each: where the test passes what is the same as an item that passes, the one that passes is the first.
  pub last_first : (same : A → A → Bool) → ((x y : A) → test x ≡ true → test y ≡ true → same x y ≡ true)
      → ((x y : A) → test x ≡ false → test y ≡ true → same x y ≡ false) → (xs : List A)
      → last_of (first_of_each same xs) ≡ find test xs
  last_first same both one [] = refl
  last_first same both one (x ∷ xs) = by (last_first same both one xs) (test x) refl
    where
      by : last_of (first_of_each same xs) ≡ find test xs → (t : Bool) → test x ≡ t
          → option_or (last_of (filter (λ y. not (same x y)) (first_of_each same xs))) (if t then Some x else None)
          ≡ cond t (Some x) (find test xs)
      by r true p = ap (λ o. option_or o (Some x))
          (none_kept (λ y. not (same x y)) (λ y q. ap not (both x y p q)) (first_of_each same xs))
      by r false p = or_none (last_of (filter (λ y. not (same x y)) (first_of_each same xs)))
          ∙ (all_kept (λ y. not (same x y)) (λ y q. ap not (one x y p q)) (first_of_each same xs) ∙ r)

pub last_map : {A B : Type 0} (test : B → Bool) (f : A → B) (xs : List A)
    → last_of test (map f xs) ≡ option_map f (last_of (λ x. test (f x)) xs)
last_map test f [] = refl
last_map {A} {B} test f (x ∷ xs) = ap (λ o. option_or o (if test (f x) then Some (f x) else None))
    (last_map test f xs) ∙ by (last_of (λ y. test (f y)) xs) (test (f x))
  where
    by : (o : Option A) (b : Bool) → option_or (option_map f o) (if b then Some (f x) else None) ≡ option_map f
        (option_or o (if b then Some x else None))
    by None true = refl
    by None false = refl
    by (Some y) b = refl

-- an item is found as the first of those that pass
pub find_first : {A : Type 0} (test : A → Bool) (xs : List A) → find test xs ≡ find (λ _. true) (filter test xs)
find_first test [] = refl
find_first {A} test (x ∷ xs) = by (find_first test xs) (test x)
  where
    by : find test xs ≡ find (λ _. true) (filter test xs) → (b : Bool)
        → cond b (Some x) (find test xs) ≡ find (λ _. true) (cond b (x ∷ filter test xs) (filter test xs))
    by r true = refl
    by r false = r

pub filter_same : {A : Type 0} (f g : A → Bool) → ((x : A) → f x ≡ g x) → (xs : List A) → filter f xs ≡ filter g xs
filter_same f g h xs = ap (λ t. filter t xs) (λ i x. h x i)

-- lists whose items correspond, and whose tests agree, are filtered alike
pub zip_filter : {A B : Type 0} (R : A → B → Type 0) (f : A → Bool) (g : B → Bool)
    → ((x : A) (y : B) → R x y → f x ≡ g y) → (xs : List A) (ys : List B)
    → AllZip R xs ys → AllZip R (filter f xs) (filter g ys)
zip_filter R f g h [] [] k = tt
zip_filter R f g h [] (y ∷ ys) k = absurd k
zip_filter R f g h (x ∷ xs) [] k = absurd k
zip_filter R f g h (x ∷ xs) (y ∷ ys) k = subst
    (λ b. AllZip R (cond (f x) (x ∷ filter f xs) (filter f xs)) (cond b (y ∷ filter g ys) (filter g ys))) (h x y k.0)
    (by (zip_filter R f g h xs ys k.1) (f x))
  where
    by : AllZip R (filter f xs) (filter g ys) → (b : Bool)
        → AllZip R (cond b (x ∷ filter f xs) (filter f xs)) (cond b (y ∷ filter g ys) (filter g ys))
    by r true = (k.0, r)
    by r false = r
