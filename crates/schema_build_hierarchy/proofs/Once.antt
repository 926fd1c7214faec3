-- The first of each, once a list is sorted with those alike in their order.
use Rattle.std.proofs.Common.{◌≡◌, List, [], ◌∷◌, refl, sym, ap, ◌∙◌, subst, arith, inl, inr, All, Contains, Ordering}
use Rattle.std.proofs.Common.{Bool, true, false, cond, map}
use Rattle.std.specs.Prelude.{◌⊎◌, not, ◌&&◌, filter}
use Rattle.std.specs.declared.cmp.Ordering.TheVariants.{Less, Equal, Greater}
use Rattle.std.specs.Cmp.{IsTotalOrder, IsEquivalence}
use Rattle.std.specs.Ordering.{is_lt, is_eq, ordering_reverse, eq_by_cmp}
use Rattle.std.specs.List.{dedup, dedup_from}
use Rattle.std.specs.List.Sorted.{IsStrictlySortedBy, IsSorted, IsPermutation, IsStable, ties}
use Rattle.std.proofs.lemmas.Bool.{cases_Bool}
use Rattle.std.proofs.lemmas.Cmp.{tied_itself, tied_back, alike_right, eq_by_cmp_equiv}
use Rattle.std.proofs.lemmas.List.Elements.{All-from_recursion, All-contains, All-contains_itself, All-weaker}
use Rattle.std.proofs.lemmas.List.Elements.{Contains-append_cases, Contains-push_cases, filter_agree}
use Rattle.std.proofs.lemmas.List.Kept.{IsStrictlySortedBy-dedup, Any-dedup, Contains-from_dedup}
use Rattle.std.proofs.lemmas.List.Sorted.{Contains-permutation, IsPermutation-sym}
use Rattle.std.proofs.lemmas.Map.Keys.{sorted_head, sorted_tail}
use Rattle.cedar_data.proofs.Lists.{contains_map}
use Rattle.cedar_data.proofs.Orders.{equal_from}
use Rattle.schema_build_hierarchy.specs.FirstUses.{IsFirstUse, HasAlike, AreFirstUses}

pub contains_cases : {A : Type 0} (k : A) (xs : List A) (x : A) → Contains (k ∷ xs) x → (k ≡ x) ⊎ Contains xs x
contains_cases k xs x c = elim (Contains-append_cases (k ∷ []) xs x c) [
  | inl here ↦ elim (Contains-push_cases [] k x here)
      [ inl none ↦ absurd (omega (arith, none.1)) | inr same ↦ inl same ]
  | inr there ↦ inr there
]

tied_is : (a b : Ordering) → b ≡ ordering_reverse a → is_eq a ≡ (not (is_lt a) && not (is_lt b))
tied_is Less b e = refl
tied_is Equal b e = ap (λ z. not (is_lt z)) (sym e)
tied_is Greater b e = ap (λ z. not (is_lt z)) (sym e)

module _ {T : Type 0} {R : T → T → Ordering} (o : IsTotalOrder R) (E : T → T → Bool)
    (same : (x y : T) → E x y ≡ eq_by_cmp R x y) where
  abbrev alike : T → List T → List T
  alike x = filter (λ y. is_eq (R x y))

  alike_from : (x y : T) → E x y ≡ true → R x y ≡ Equal
  alike_from x y e = equal_from (R x y) (sym (same x y) ∙ e)

  here : (x : T) (xs : List T) → IsFirstUse R (x ∷ xs) x
  here x xs = (alike x xs, ap (λ b. cond b (x ∷ alike x xs) (alike x xs)) (ap is_eq (tied_itself o x)))

  -- an item that is not alike is passed over
  passed : (x k : T) (xs : List T) → is_eq (R x k) ≡ false → IsFirstUse R xs x → IsFirstUse R (k ∷ xs) x
  passed x k xs off h = (h.0, ap (λ b. cond b (k ∷ alike x xs) (alike x xs)) off ∙ h.1)

  -- one that is alike is the first
  taken : (x k : T) (xs : List T) → is_eq (R x k) ≡ true → IsFirstUse R (k ∷ xs) x → k ≡ x
  taken x k xs hit h =
      let front : cond (is_eq (R x k)) (k ∷ alike x xs) (alike x xs) ≡ x ∷ h.0 = h.1 in
      let shown : cond (is_eq (R x k)) (k ∷ alike x xs) (alike x xs)
      ≡ k ∷ alike x xs = ap (λ b. cond b (k ∷ alike x xs) (alike x xs)) hit in
      cc

  behind : (x k : T) (xs : List T) → is_eq (R x k) ≡ false → IsFirstUse R (k ∷ xs) x → IsFirstUse R xs x
  behind x k xs off h = (h.0, sym (ap (λ b. cond b (k ∷ alike x xs) (alike x xs)) off) ∙ h.1)

  -- an item behind the first that is like it
  put_in : (x k y : T) (xs : List T) → E y k ≡ true → IsFirstUse R (k ∷ xs) x → IsFirstUse R (k ∷ y ∷ xs) x
  put_in x k y xs e h = go (cases_Bool (is_eq (R x k)))
    where
      both : R x y ≡ R x k
      both = alike_right o y k x (alike_from y k e)

      go : (is_eq (R x k) ≡ true) ⊎ (is_eq (R x k) ≡ false) → IsFirstUse R (k ∷ y ∷ xs) x
      go (inl hit) = subst (λ z. IsFirstUse R (z ∷ y ∷ xs) x) (sym (taken x k xs hit h)) (here x (y ∷ xs))
      go (inr off) = passed x k (y ∷ xs) off (passed x y xs (ap is_eq both ∙ off) (behind x k xs off h))

  above : (k x : T) (xs : List T) → IsStrictlySortedBy R (k ∷ xs) → Contains xs x → is_eq (R x k) ≡ false
  above k x xs up c =
      let less : R k x ≡ Less = All-contains (λ z. R k z ≡ Less) xs x
      (All-from_recursion (λ z. R k z ≡ Less) xs (sorted_head R k xs up)) c in
      ap is_eq (o.antisymm x k ∙ ap ordering_reverse less)

  first_in : (k : T) (xs : List T) → IsStrictlySortedBy R (dedup_from E k xs) → (x : T) → Contains (dedup_from E k xs) x
      → IsFirstUse R (k ∷ xs) x
  first_in k [] up x c = elim (contains_cases k [] x c) [
    | inl e ↦ subst (λ z. IsFirstUse R (z ∷ []) x) (sym e) (here x [])
    | inr none ↦ absurd (omega (arith, none.1))
  ]
  first_in k (y ∷ xs) up x c = go (cases_Bool (E y k)) (first_in k xs) (first_in y xs)
    where
      go : (E y k ≡ true) ⊎ (E y k ≡ false)
          → (IsStrictlySortedBy R (dedup_from E k xs) → (x : T) → Contains (dedup_from E k xs) x
          → IsFirstUse R (k ∷ xs) x)
          → (IsStrictlySortedBy R (dedup_from E y xs) → (x : T) → Contains (dedup_from E y xs) x
          → IsFirstUse R (y ∷ xs) x)
          → IsFirstUse R (k ∷ y ∷ xs) x
      go (inl e) mine its =
          let shape : cond (E y k) (dedup_from E k xs) (k ∷ dedup_from E y xs)
          ≡ dedup_from E k xs = ap (λ b. cond b (dedup_from E k xs) (k ∷ dedup_from E y xs)) e in
          put_in x k y xs e (mine (subst (IsStrictlySortedBy R) shape up) x (subst (λ l. Contains l x) shape c))
      go (inr e) mine its =
          let shape : cond (E y k) (dedup_from E k xs) (k ∷ dedup_from E y xs)
          ≡ k ∷ dedup_from E y xs = ap (λ b. cond b (dedup_from E k xs) (k ∷ dedup_from E y xs)) e in
          let up' : IsStrictlySortedBy R (k ∷ dedup_from E y xs) = subst (IsStrictlySortedBy R) shape up in
          elim (contains_cases k (dedup_from E y xs) x (subst (λ l. Contains l x) shape c)) [
            | inl here' ↦ subst (λ z. IsFirstUse R (z ∷ y ∷ xs) x) (sym here') (here x (y ∷ xs))
            | inr there ↦ passed x k (y ∷ xs) (above k x (dedup_from E y xs) up' there)
                (its (sorted_tail R k (dedup_from E y xs) up') x there)
          ]

  first_once : (xs : List T) → IsStrictlySortedBy R (dedup E xs) → (x : T) → Contains (dedup E xs) x → IsFirstUse R xs x
  first_once [] up x c = absurd (omega (arith, c.1))
  first_once (k ∷ xs) up x c = first_in k xs up x c

  alike_in : (xs : List T) (u : T) → Contains xs u → HasAlike R (dedup E xs) u
  alike_in xs u c =
      let equiv : IsEquivalence E = subst IsEquivalence (λ i x y. sym (same x y) i) (eq_by_cmp_equiv o) in
      let found = Any-dedup equiv xs u c in
      (found.1, (found.0, found.2, found.3), tied_back o u found.1 (alike_from u found.1 found.4))

  pub firsts_are : (uses sorted firsts : List T) → IsPermutation uses sorted → IsStable R uses sorted
      → IsSorted R sorted
      → firsts ≡ dedup E sorted → AreFirstUses R uses firsts
  firsts_are uses sorted firsts moved stable up is = subst (AreFirstUses R uses) (sym is) (record {
    rising = rising;
    first = All-weaker (Contains (dedup E sorted)) (IsFirstUse R uses)
        (λ x c. let h = first_once sorted rising x c in (h.0, kept x ∙ h.1)) (dedup E sorted)
        (All-contains_itself (dedup E sorted));
    whole = λ u c. alike_in sorted u (Contains-permutation uses sorted u moved c);
  })
    where
      rising : IsStrictlySortedBy R (dedup E sorted)
      rising = IsStrictlySortedBy-dedup o same sorted up

      tie : (x y : T) → is_eq (R x y) ≡ ties (λ a b. is_lt (R a b)) x y
      tie x y = tied_is (R x y) (R y x) (o.antisymm y x)

      kept : (x : T) → alike x uses ≡ alike x sorted
      kept x =
          filter_agree (λ y. is_eq (R x y)) (ties (λ a b. is_lt (R a b)) x) (tie x) uses ∙ sym (stable x)
          ∙ sym (filter_agree (λ y. is_eq (R x y)) (ties (λ a b. is_lt (R a b)) x) (tie x) sorted)

  -- each once, in order: what was there, and nothing else
  pub once_kept : (entries sorted : List T) → IsPermutation entries sorted → All (Contains entries) (dedup E sorted)
  once_kept entries sorted moved = All-weaker (Contains (dedup E sorted)) (Contains entries)
      (λ x c. Contains-permutation sorted entries x (IsPermutation-sym entries sorted moved)
      (Contains-from_dedup E sorted x c))
      (dedup E sorted) (All-contains_itself (dedup E sorted))

  pub once_whole : (entries sorted : List T) → IsPermutation entries sorted → All (HasAlike R (dedup E sorted)) entries
  once_whole entries sorted moved = All-weaker (Contains entries) (HasAlike R (dedup E sorted))
      (λ u c. alike_in sorted u (Contains-permutation entries sorted u moved c)) entries (All-contains_itself entries)

-- those alike, by what is seen of the items
pub alike_named : {A B : Type 0} (f : A → B) (R : B → B → Ordering) (xs us : List A)
    → All (HasAlike (λ a b. R (f a) (f b)) xs) us → All (λ u. HasAlike R (map f xs) (f u)) us
alike_named f R xs us all k d h = let r = all k d h in (f r.0, contains_map f xs r.0 r.1, r.2)
