-- Entries with distinct keys make the same map in any order.
use Rattle.std.proofs.Common.{◌≡◌, ◌≤◌, ◌⊎◌, inl, inr, ℕ, zero, suc, Bool, true, false, not, cond, List, [], ◌∷◌, ◌++◌}
use Rattle.std.proofs.Common.{length, map, refl, sym, ap, ◌∙◌, arith}
use Rattle.std.specs.Prelude.{IfSome, None, Option, Some}
use Rattle.std.specs.declared.cmp.Ordering.{Ordering}
use Rattle.std.specs.declared.cmp.Ordering.TheVariants.{Less, Equal, Greater}
use Rattle.std.specs.Borrow.{Bor}
use Rattle.std.specs.Cmp.{IsTotalOrder, eq_by_cmp_equiv}
use Rattle.std.specs.List.{AllByRecursion, Contains, IsDistinct, filter}
use Rattle.std.specs.List.Sorted.{IsPermutation}
use Rattle.std.specs.Map.{keys_of}
use Rattle.std.specs.Ordering.{eq_by_cmp, is_eq}
use Rattle.std.proofs.lemmas.List.Elements.{All-contains, All-contains_itself, All-filter, Contains-append_cases}
use Rattle.std.proofs.lemmas.List.Elements.{filter_passes}
use Rattle.std.proofs.lemmas.List.Sorted.{Contains-permutation, IsPermutation-filter_both, IsPermutation-map}
use Rattle.std.proofs.lemmas.List.Sorted.{IsPermutation-sym}
use Rattle.std.proofs.lemmas.Map.Keys.{IsDistinct-IsPermutation}
use Rattle.cedar_data.specs.Maps.{map_of}
use Rattle.schema_convert_fragments.proofs.StablySorted.{map_of_alike}

module _ {A : Type 0} (p : A → Bool) where
  kept_among : (xs : List A) (x : A) → Contains (filter p xs) x → Contains xs x
  kept_among xs x h =
      All-contains (Contains xs) (filter p xs) x (All-filter p (Contains xs) xs (All-contains_itself xs)) h

  kept_passes : (xs : List A) (x : A) → Contains (filter p xs) x → p x ≡ true
  kept_passes xs x h = All-contains (λ y. p y ≡ true) (filter p xs) x (filter_passes p xs) h

  kept : (xs : List A) (x : A) → Contains xs x → p x ≡ true → Contains (filter p xs) x
  kept xs x h e =
      by (Contains-append_cases (filter p xs) (filter (λ y. not (p y)) xs) x
      (Contains-permutation xs (filter p xs ++ filter (λ y. not (p y)) xs) x
      (IsPermutation-filter_both p (λ y. not (p y)) (λ y. refl) xs) h))
    where
      by : Contains (filter p xs) x ⊎ Contains (filter (λ y. not (p y)) xs) x → Contains (filter p xs) x
      by (inl k) = k
      by (inr k) =
          absurd (let other : not (p x) ≡ true =
          All-contains (λ y. not (p y) ≡ true) (filter (λ y. not (p y)) xs) x (filter_passes (λ y. not (p y)) xs) k in
          let no : false ≡ true = sym (ap not e) ∙ other in cc)

  -- what is kept of items in another order
  pub kept_moved : (xs ys : List A) → IsPermutation xs ys → (x : A) → Contains (filter p xs) x
      → Contains (filter p ys) x
  kept_moved xs ys moved x h = kept ys x (Contains-permutation xs ys x moved (kept_among xs x h)) (kept_passes xs x h)

module _ {A : Type 0} where
  only : (q x : A) → Contains (q ∷ []) x → x ≡ q
  only q x (zero, lt, e) = sym e
  only q x (suc k, lt, e) = absurd (omega (arith, lt))

  nothing_in : (x : A) → Contains [] x → ⊥
  nothing_in x h = omega (arith, h.1)

  -- lists of one item at most that have the same items
  pub short_same : (ps qs : List A) → length ps ≤ 1 → length qs ≤ 1 → ((x : A) → Contains ps x → Contains qs x)
      → ((x : A) → Contains qs x → Contains ps x)
      → ps ≡ qs
  short_same [] [] a b f g = refl
  short_same [] (q ∷ qs) a b f g = absurd (nothing_in q (g q (0, omega arith, refl)))
  short_same (p ∷ ps) [] a b f g = absurd (nothing_in p (f p (0, omega arith, refl)))
  short_same (p ∷ []) (q ∷ []) a b f g = ap (λ x. x ∷ []) (only q p (f p (0, omega arith, refl)))
  short_same (p ∷ []) (q ∷ r ∷ qs) a b f g = absurd (omega (arith, b))
  short_same (p ∷ r ∷ ps) (q ∷ qs) a b f g = absurd (omega (arith, a))

module _ {K X : Type 0} {R : K → K → Ordering} (o : IsTotalOrder R) where
  none_tied : (k j : K) (es : List (K × X)) → R k j ≡ Equal → AllByRecursion (λ y. eq_by_cmp R j y ≡ false) (keys_of es)
      → filter (λ f. is_eq (R k f.0)) es ≡ []
  none_tied k j [] same apart = refl
  none_tied k j (y ∷ es) same apart =
      ap (λ b. cond b (y ∷ filter (λ f. is_eq (R k f.0)) es) (filter (λ f. is_eq (R k f.0)) es))
      (ap is_eq (o.congr k j y.0 same) ∙ apart.0)
      ∙ none_tied k j es same apart.1

  one_tied : (k : K) (es : List (K × X)) → IsDistinct (eq_by_cmp R) (keys_of es)
      → length (filter (λ f. is_eq (R k f.0)) es) ≤ 1
  unfolding IsDistinct
  one_tied k [] apart = omega arith
  one_tied k (x ∷ es) apart = by (R k x.0) refl (one_tied k es apart.1)
    where
      by : (t : Ordering) → R k x.0 ≡ t → length (filter (λ f. is_eq (R k f.0)) es) ≤ 1
          → length (cond (is_eq t) (x ∷ filter (λ f. is_eq (R k f.0)) es) (filter (λ f. is_eq (R k f.0)) es)) ≤ 1
      by Less s more = more
      by Equal s more =
          let none : length (filter (λ (f : K × X). is_eq (R k f.0)) es) ≡ 0 =
          ap length (none_tied k x.0 es s apart.0) in
          omega (arith, none)
      by Greater s more = more

  pub map_of_moved : (xs ys : List (K × X)) → IsPermutation xs ys → IsDistinct (eq_by_cmp R) (keys_of xs)
      → map_of R ys ≡ map_of R xs
  map_of_moved xs ys moved apart =
      let others = IsDistinct-IsPermutation (eq_by_cmp R) ((eq_by_cmp_equiv o).symm) (keys_of xs) (keys_of ys)
      (IsPermutation-map (λ e. e.0) xs ys moved) apart in
      map_of_alike o xs ys (λ e. short_same (filter (λ f. is_eq (R e.0 f.0)) ys) (filter (λ f. is_eq (R e.0 f.0)) xs)
      (one_tied e.0 ys others) (one_tied e.0 xs apart)
      (kept_moved (λ f. is_eq (R e.0 f.0)) ys xs (IsPermutation-sym xs ys moved))
      (kept_moved (λ f. is_eq (R e.0 f.0)) xs ys moved))

-- what is said of what there is
pub told_of : {A D : Type 0} (found : Option A) (x : A) → found ≡ Some x → IfSome found (λ _. D) → D
told_of None x e h = absurd (cc)
told_of (Some y) x e h = h

-- keys that are lent are apart as the keys are
module _ {K : Type 0} (R : K → K → Ordering) where
  lent_apart : (k : K) (ks : List (Bor K × ℕ)) → AllByRecursion (λ y. is_eq (R k y.now) ≡ false) (keys_of ks)
      → AllByRecursion (λ y. eq_by_cmp R k y ≡ false) (map (λ e. e.0.now) ks)
  lent_apart k [] apart = tt
  lent_apart k (e ∷ ks) apart = (apart.0, lent_apart k ks apart.1)

  pub lent_distinct : (ks : List (Bor K × ℕ)) → IsDistinct (eq_by_cmp (λ a b. R a.now b.now)) (keys_of ks)
      → IsDistinct (eq_by_cmp R) (map (λ e. e.0.now) ks)
  unfolding IsDistinct
  lent_distinct [] apart = tt
  lent_distinct (e ∷ ks) apart = (lent_apart e.0.now ks apart.0, lent_distinct ks apart.1)
