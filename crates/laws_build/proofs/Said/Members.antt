-- Members of lists: of lists that others give, of lists side by side, and of lists in order.
use Rattle.std.proofs.Common.{◌≡◌, ◌⊎◌, inl, inr, zero, suc, Bool, true, false, cond, List, [], ◌∷◌, ◌++◌, map, filter}
use Rattle.std.proofs.Common.{flat_map, Some, Contains, refl, sym, ap, ◌∙◌, subst, arith, true≢false}
use Rattle.std.specs.BTreeMap.{is_at}
use Rattle.std.specs.Cmp.{IsTotalOrder, tied_itself}
use Rattle.std.specs.List.{AllByRecursion, AllZip}
use Rattle.std.specs.List.Sorted.{IsStrictlySortedBy}
use Rattle.std.specs.Map.{lookup}
use Rattle.std.specs.Ordering.{is_eq, ordering_reverse}
use Rattle.std.specs.declared.cmp.Ordering.{Ordering}
use Rattle.std.specs.declared.cmp.Ordering.TheVariants.{Less, Equal}
use Rattle.std.proofs.lemmas.Map.Keys.{sorted_head, sorted_tail}

-- it is one of these
abbrev pub IsIn : {A : Type 0} → A → List A → Type 0
IsIn x [] = ⊥
IsIn x (y ∷ ys) = (x ≡ y) ⊎ IsIn x ys

pub in_from : {A : Type 0} (xs : List A) (x : A) → Contains xs x → IsIn x xs
in_from [] x (k, lt, e) = absurd (omega arith)
in_from (y ∷ ys) x (zero, lt, e) = inl (sym e)
in_from (y ∷ ys) x (suc k, lt, e) = inr (in_from ys x (k, omega arith, e))

pub in_to : {A : Type 0} (xs : List A) (x : A) → IsIn x xs → Contains xs x
in_to [] x h = absurd h
in_to (y ∷ ys) x (inl e) = (zero, omega arith, sym e)
in_to (y ∷ ys) x (inr h) = let r = in_to ys x h in (suc r.0, omega (arith, r.1), r.2)

pub in_append : {A : Type 0} (xs ys : List A) (x : A) → IsIn x (xs ++ ys) → IsIn x xs ⊎ IsIn x ys
in_append [] ys x h = inr h
in_append (y ∷ xs) ys x (inl e) = inl (inl e)
in_append (y ∷ xs) ys x (inr h) = by (in_append xs ys x h)
  where
    by : IsIn x xs ⊎ IsIn x ys → ((x ≡ y) ⊎ IsIn x xs) ⊎ IsIn x ys
    by (inl k) = inl (inr k)
    by (inr k) = inr k

pub left_to : {A : Type 0} (xs ys : List A) (x : A) → IsIn x xs → IsIn x (xs ++ ys)
left_to [] ys x h = absurd h
left_to (y ∷ xs) ys x (inl e) = inl e
left_to (y ∷ xs) ys x (inr h) = inr (left_to xs ys x h)

pub right_to : {A : Type 0} (xs ys : List A) (x : A) → IsIn x ys → IsIn x (xs ++ ys)
right_to [] ys x h = h
right_to (y ∷ xs) ys x h = inr (right_to xs ys x h)

pub in_map : {A B : Type 0} (f : A → B) (xs : List A) (y : B) → IsIn y (map f xs) → (x : A) × IsIn x xs × (y ≡ f x)
in_map f [] y h = absurd h
in_map f (x ∷ xs) y (inl e) = (x, inl refl, e)
in_map f (x ∷ xs) y (inr h) = let r = in_map f xs y h in (r.0, inr r.1, r.2)

pub map_to : {A B : Type 0} (f : A → B) (xs : List A) (x : A) → IsIn x xs → IsIn (f x) (map f xs)
map_to f [] x h = absurd h
map_to f (y ∷ xs) x (inl e) = inl (ap f e)
map_to f (y ∷ xs) x (inr h) = inr (map_to f xs x h)

pub in_flat : {A B : Type 0} (f : A → List B) (xs : List A) (y : B) → IsIn y (flat_map f xs)
    → (x : A) × IsIn x xs × IsIn y (f x)
in_flat f [] y h = absurd h
in_flat {A} {B} f (x ∷ xs) y h = by (in_append (f x) (flat_map f xs) y h) (in_flat f xs y)
  where
    by : IsIn y (f x) ⊎ IsIn y (flat_map f xs) → (IsIn y (flat_map f xs) → (x : A) × IsIn x xs × IsIn y (f x))
        → (z : A) × IsIn z (x ∷ xs) × IsIn y (f z)
    by (inl k) r = (x, inl refl, k)
    by (inr k) r = let o = r k in (o.0, inr o.1, o.2)

pub flat_to : {A B : Type 0} (f : A → List B) (xs : List A) (x : A) (y : B) → IsIn x xs → IsIn y (f x)
    → IsIn y (flat_map f xs)
flat_to f [] x y h k = absurd h
flat_to f (z ∷ xs) x y (inl e) k = left_to (f z) (flat_map f xs) y (subst (λ a. IsIn y (f a)) e k)
flat_to f (z ∷ xs) x y (inr h) k = right_to (f z) (flat_map f xs) y (flat_to f xs x y h k)

pub in_filter : {A : Type 0} (test : A → Bool) (xs : List A) (x : A) → IsIn x (filter test xs)
    → IsIn x xs × (test x ≡ true)
in_filter test [] x h = absurd h
in_filter test (y ∷ ys) x h = by (test y) refl h (in_filter test ys x)
  where
    by : (b : Bool) → test y ≡ b → IsIn x (cond b (y ∷ filter test ys) (filter test ys))
        → (IsIn x (filter test ys) → IsIn x ys × (test x ≡ true)) → ((x ≡ y) ⊎ IsIn x ys) × (test x ≡ true)
    by true t (inl e) r = (inl e, ap test e ∙ t)
    by true t (inr k) r = let o = r k in (inr o.0, o.1)
    by false t k r = let o = r k in (inr o.0, o.1)

pub filter_to : {A : Type 0} (test : A → Bool) (xs : List A) (x : A) → IsIn x xs → test x ≡ true
    → IsIn x (filter test xs)
filter_to test [] x h t = absurd h
filter_to test (y ∷ ys) x (inl e) t =
    subst (λ b. IsIn x (cond b (y ∷ filter test ys) (filter test ys))) (sym (ap test (sym e) ∙ t)) (inl e)
filter_to test (y ∷ ys) x (inr h) t = by (test y) (filter_to test ys x h t)
  where
    by : (b : Bool) → IsIn x (filter test ys) → IsIn x (cond b (y ∷ filter test ys) (filter test ys))
    by true k = inr k
    by false k = k

pub all_in : {A : Type 0} (P : A → Type 0) (xs : List A) (x : A) → AllByRecursion P xs → IsIn x xs → P x
all_in P [] x h k = absurd k
all_in P (y ∷ ys) x h (inl e) = subst P (sym e) h.0
all_in P (y ∷ ys) x h (inr k) = all_in P ys x h.1 k

pub in_all : {A : Type 0} (P : A → Type 0) (xs : List A) → ((x : A) → IsIn x xs → P x) → AllByRecursion P xs
in_all P [] h = tt
in_all P (x ∷ xs) h = (h x (inl refl), in_all P xs (λ y k. h y (inr k)))

-- a list in which nothing is
pub none_in : {A : Type 0} (xs : List A) → ((x : A) → IsIn x xs → ⊥) → xs ≡ []
none_in [] h = refl
none_in (x ∷ xs) h = absurd (h x (inl refl))

-- a list of which nothing is given
pub flat_nothing : {A B : Type 0} (f : A → List B) (xs : List A) → ((x : A) → IsIn x xs → f x ≡ [])
    → flat_map f xs ≡ []
flat_nothing f [] h = refl
flat_nothing f (x ∷ xs) h =
    let first = h x (inl refl) in
    let others = flat_nothing f xs (λ y k. h y (inr k)) in
    λ i. first i ++ others i

pub append_nothing : {A : Type 0} (xs ys : List A) → xs ≡ [] → ys ≡ [] → xs ++ ys ≡ []
append_nothing xs ys h k = λ i. h i ++ k i

-- a list beside another, from an item for each
pub picked : {A B : Type 0} (P : B → A → Type 0) (xs : List A) → ((x : A) → IsIn x xs → (y : B) × P y x)
    → (ys : List B) × AllZip P ys xs
picked P [] h = ([], tt)
picked P (x ∷ xs) h =
    let first = h x (inl refl) in
    let others = picked P xs (λ z k. h z (inr k)) in
    (first.0 ∷ others.0, (first.1, others.1))

module _ {A B : Type 0} (P : B → A → Type 0) where
  pub zip_left : (ys : List B) (xs : List A) → AllZip P ys xs → (y : B) → IsIn y ys → (x : A) × IsIn x xs × P y x
  zip_left [] xs z y h = absurd h
  zip_left (b ∷ ys) [] z y h = absurd z
  zip_left (b ∷ ys) (a ∷ xs) z y (inl e) = (a, inl refl, subst (λ c. P c a) (sym e) z.0)
  zip_left (b ∷ ys) (a ∷ xs) z y (inr h) = let r = zip_left ys xs z.1 y h in (r.0, inr r.1, r.2)

  pub zip_right : (ys : List B) (xs : List A) → AllZip P ys xs → (x : A) → IsIn x xs → (y : B) × IsIn y ys × P y x
  zip_right ys [] z x h = absurd h
  zip_right [] (a ∷ xs) z x h = absurd z
  zip_right (b ∷ ys) (a ∷ xs) z x (inl e) = (b, inl refl, subst (P b) (sym e) z.0)
  zip_right (b ∷ ys) (a ∷ xs) z x (inr h) = let r = zip_right ys xs z.1 x h in (r.0, inr r.1, r.2)

  pub zip_names : {N : Type 0} (f : B → N) (g : A → N) → ((y : B) (x : A) → P y x → f y ≡ g x) → (ys : List B)
      (xs : List A) → AllZip P ys xs → map f ys ≡ map g xs
  zip_names f g same [] [] z = refl
  zip_names f g same [] (x ∷ xs) z = absurd z
  zip_names f g same (y ∷ ys) [] z = absurd z
  zip_names f g same (y ∷ ys) (x ∷ xs) z =
      let first = same y x z.0 in
      let others = zip_names f g same ys xs z.1 in
      λ i. first i ∷ others i

pub zip_more : {A B : Type 0} (P Q : B → A → Type 0) (ys : List B) (xs : List A)
    → ((y : B) (x : A) → IsIn x xs → P y x → Q y x) → AllZip P ys xs → AllZip Q ys xs
zip_more P Q [] [] more z = tt
zip_more P Q [] (x ∷ xs) more z = absurd z
zip_more P Q (y ∷ ys) [] more z = absurd z
zip_more P Q (y ∷ ys) (x ∷ xs) more z =
    (more y x (inl refl) z.0, zip_more P Q ys xs (λ b a k. more b a (inr k)) z.1)

-- an entry of a map whose names rise is found by its name
module _ {K N V : Type 0} (order : N → N → Ordering) (total : IsTotalOrder order) (name : K → N) where
  abbrev names : List (K × V) → List N
  names es = map (λ e. name e.0) es

  pub found_there : (es : List (K × V)) (e : K × V) → IsStrictlySortedBy order (names es) → IsIn e es
      → lookup (λ k. is_at (order (name e.0)) (name k)) es ≡ Some e.1
  found_there [] e s h = absurd h
  found_there (d ∷ es) e s (inl p) =
      ap (λ c. cond (is_eq c) (Some d.1) (lookup (λ k. is_at (order (name e.0)) (name k)) es))
      (ap (order (name e.0)) (ap (λ (x : K × V). name x.0) (sym p)) ∙ tied_itself total (name e.0))
      ∙ ap (λ (x : K × V). Some x.1) (sym p)
  found_there (d ∷ es) e s (inr h) =
      let less : order (name d.0) (name e.0) ≡ Less =
      all_in (λ y. order (name d.0) y ≡ Less) (names es) (name e.0) (sorted_head order (name d.0) (names es) s)
      (map_to (λ (x : K × V). name x.0) es e h) in
      ap (λ c. cond (is_eq c) (Some d.1) (lookup (λ k. is_at (order (name e.0)) (name k)) es))
      (total.antisymm (name e.0) (name d.0) ∙ ap ordering_reverse less)
      ∙ found_there es e (sorted_tail order (name d.0) (names es) s) h

-- of a list whose names rise, two with one name are one
module _ {A N : Type 0} (order : N → N → Ordering) (total : IsTotalOrder order) (name : A → N) where
  not_itself : (x y : A) → order (name x) (name y) ≡ Less → name x ≡ name y → ⊥
  not_itself x y h e =
      let same : order (name x) (name y) ≡ Equal = ap (order (name x)) (sym e) ∙ tied_itself total (name x) in
      true≢false (sym (ap is_eq (sym h ∙ same)))

  above : (x : A) (xs : List A) (y : A) → IsStrictlySortedBy order (map name (x ∷ xs)) → IsIn y xs
      → order (name x) (name y) ≡ Less
  above x xs y s h = all_in (λ n. order (name x) n ≡ Less) (map name xs) (name y)
      (sorted_head order (name x) (map name xs) s) (map_to name xs y h)

  pub rising_once : (xs : List A) → IsStrictlySortedBy order (map name xs) → (x y : A) → IsIn x xs → IsIn y xs
      → name x ≡ name y → x ≡ y
  rising_once [] s x y h k n = absurd h
  rising_once (z ∷ xs) s x y (inl e) (inl f) n = e ∙ sym f
  rising_once (z ∷ xs) s x y (inl e) (inr k) n = absurd (not_itself z y (above z xs y s k) (ap name (sym e) ∙ n))
  rising_once (z ∷ xs) s x y (inr h) (inl f) n = absurd (not_itself z x (above z xs x s h) (ap name (sym f) ∙ sym n))
  rising_once (z ∷ xs) s x y (inr h) (inr k) n =
      rising_once xs (sorted_tail order (name z) (map name xs) s) x y h k n
